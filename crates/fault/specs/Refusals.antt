-- What each fault says: its number, its place and its depth. Assumes nothing.
--     refusal f      the number, place and depth of the fault f
--     told value r   what a call answered, a fault by what it says
--     starved r      the call found no memory
use Rattle.std.specs.Prelude.{ℕ, Bool, false, Ok, Err, Result, ◌==◌}
use Rattle.fault.specs.declared.Fault.{Fault}
use Rattle.fault.specs.declared.Fault.TheVariants.{SheetTooLong, Malformed, CountBeyondLimit, LowNotBelowHigh, NamesNothing, NotRising, Surplus, NoSuchElement, AlreadyKnown, PriceOutside, NoPrice, AllowanceSpent, NotSettled, TooFewMarks, AlreadyInSet, DependentSet, NoMemory}

-- the number says what went wrong; the place is a line of the sheet or an element; the depth that of the source that refused
pub record Refusal : Type 0 where
  pub number : ℕ
  pub place : ℕ
  pub depth : ℕ

-- the refusal of number c at the place p and the depth d
abbrev pub refused : ℕ → ℕ → ℕ → Refusal
refused c p d = record { number = c; place = p; depth = d }

-- every fault, by its number
abbrev pub refusal : Fault → Refusal
refusal NoMemory = refused 0 0 0
refusal SheetTooLong = refused 1 0 0
refusal (Malformed line) = refused 2 line 0
refusal (CountBeyondLimit line) = refused 3 line 0
refusal (LowNotBelowHigh line) = refused 4 line 0
refusal (NamesNothing line) = refused 5 line 0
refusal (NotRising line) = refused 6 line 0
refusal (Surplus line) = refused 7 line 0
refusal (NoSuchElement element) = refused 8 element 0
refusal (AlreadyKnown element) = refused 9 element 0
refusal (PriceOutside element depth) = refused 10 element depth
refusal (NoPrice element depth) = refused 11 element depth
refusal (AllowanceSpent element depth) = refused 12 element depth
refusal NotSettled = refused 13 0 0
refusal TooFewMarks = refused 14 0 0
refusal (AlreadyInSet element) = refused 15 element 0
refusal DependentSet = refused 16 0 0

-- an answer, whose value counts as `value` says, and whose fault as its refusal
abbrev pub told : {X A : Type 0} → (X → A) → Result X Fault → Result A Refusal
told value (Ok x) = Ok (value x)
told value (Err f) = Err (refusal f)

-- whether a call found no memory for its answer
abbrev pub starved : {X : Type 0} → Result X Fault → Bool
starved (Ok x) = false
starved (Err f) = (refusal f).number == 0
