-- What a source does over a whole list of price calls. Assumes nothing.
--     after_all σ cs      the source after the calls cs
--     payments σ cs       how many of them gave a price that counts against the allowance
--     Lasts σ             no calls change prices or depth, and the allowance pays for what they give
--     PaysOnce σ          no calls pay for an element twice, where everything is kept
use Rattle.std.specs.Prelude.{◌≡◌, ℕ, ◌+◌, ◌-◌, ◌≤◌, Bool, true, false, cond, not, ◌&&◌, List, [], ◌∷◌, map, Some, None, Option, ◌==◌}
use Rattle.source.specs.Supplies.{Supply, Verdict, refused, given, verdict, after}

-- a price call: its element, and whether a price for it makes it free
pub record Call : Type 0 where
  pub element : ℕ
  pub kept : Bool

-- the source after the calls, one after the other
abbrev pub after_all : Supply → List Call → Supply
after_all σ [] = σ
after_all σ (c ∷ cs) = after_all (after σ c.kept c.element) cs

-- whether a price is given
abbrev pub gives : Verdict → Bool
gives (refused c) = false
gives (given p) = true

-- whether a price call for e gives a price while e is not free
abbrev pub paid : Supply → ℕ → Bool
paid σ e = not (σ.free e) && gives (verdict σ e)

-- how many of the calls give a price for an element that is not free then
abbrev pub payments : Supply → List Call → ℕ
payments σ [] = 0
payments σ (c ∷ cs) = cond (paid σ c.element) 1 0 + payments (after σ c.kept c.element) cs

-- how many of those are for e
abbrev pub payments_for : ℕ → Supply → List Call → ℕ
payments_for e σ [] = 0
payments_for e σ (c ∷ cs) =
    cond (c.element == e && paid σ c.element) 1 0 + payments_for e (after σ c.kept c.element) cs

-- an allowance less n
abbrev pub lessened : ℕ → Option ℕ → Option ℕ
lessened n (Some k) = Some (k - n)
lessened n None = None

-- n is no more than the allowance
abbrev pub Covers : Option ℕ → ℕ → Type 0
Covers (Some k) n = n ≤ k
Covers None n = Unit {0}

-- no calls change a price or the depth, or end what is free; their payments are within the allowance, and lower it by so many
pub record Lasting (σ : Supply) (cs : List Call) : Type 0 where
  pub price : (after_all σ cs).price ≡ σ.price
  pub depth : (after_all σ cs).depth ≡ σ.depth
  pub free : (e : ℕ) → σ.free e ≡ true → (after_all σ cs).free e ≡ true
  pub covered : Covers σ.allowance (payments σ cs)
  pub allowance : (after_all σ cs).allowance ≡ lessened (payments σ cs) σ.allowance

-- whatever the calls
abbrev pub Lasts : Supply → Type 0
Lasts σ = (cs : List Call) → Lasting σ cs

-- the calls for the elements es, of which each price makes its element free
abbrev pub kept_calls : List ℕ → List Call
kept_calls = map (λ e. record { element = e; kept = true })

-- a source that keeps everything: whatever is asked for, no element is paid for twice
abbrev pub PaysOnce : Supply → Type 0
PaysOnce σ = (es : List ℕ) (e : ℕ) → payments_for e σ (kept_calls es) ≤ 1
