-- The lines of a sheet and its sections, each with what is written of it. Assumes nothing.
use Rattle.std.proofs.Common.{◌≡◌, ℕ, ◌^◌, ◌<◌, ◌≤◌, true, ◌&&◌, ltb, leb, List, [], ◌∷◌, ◌++◌, length, None, decimal, Option, refl, ap, ◌∙◌, arith}
use Rattle.std.specs.List.{flat_map}
use Rattle.std.proofs.lemmas.List.{append_assoc}
use Rattle.std.proofs.lemmas.Bool.{and_parts, and_from, leb-true, le-leb}
use Rattle.entry.specs.Entries.{Entry, Known, Range}
use Rattle.form.specs.Sheets.{Element, Recorded, spaced, ended, lot_text, entry_text, route_text, lot_number_text, word_text, element_text, recorded_text, section, Number, NameOk, LotOk, WordOk, price_text}
use Rattle.form.specs.declared.Letter.{Letter}
use Rattle.form.specs.declared.Letter.TheVariants.{K, R}
use Rattle.form.specs.Reading.{Step, field, heading, count, name_line, lot_line, prices, entry, low_below_high, Tail, route_tail, lot_tail, word_tail, element_line, rises, recorded_line, counted}
use Rattle.form.proofs.Laws.{Law, Word, law_done, law_needs, law_line, law_then, law_like, law_field, Chain, law_repeated, put_all_joined}
use Rattle.form.proofs.Words.{word_number, word_price, word_name, word_word, word_kind, kind_text, word_letter, letter_text}

law_spaced : {A : Type 0} {read : List ℕ → Option A} {good : A → Type 0} {show : A → List ℕ} → Word read good show → Law (field 32 read) good (λ a rest. show a ++ (32 ∷ rest))
law_spaced v = law_field 32 (omega arith) v

law_ended : {A : Type 0} {read : List ℕ → Option A} {good : A → Type 0} {show : A → List ℕ} → Word read good show → Law (field 10 read) good (λ a rest. show a ++ (10 ∷ rest))
law_ended v = law_field 10 (omega arith) v

-- ## Lines

pub law_heading : Law heading (λ h. Number h.1) (λ h rest. (spaced (kind_text h.0) ++ ended (decimal h.1)) ++ rest)
law_heading =
    law_like (λ h. Number h.1) (λ h rest. (spaced (kind_text h.0) ++ ended (decimal h.1)) ++ rest)
    (law_line
    (law_then (law_spaced word_kind)
    (λ k. law_then (law_ended word_number) (λ n. law_done (k, n)) (λ h. h.1) (λ n h g. ap (λ x. x.1) g))
    (λ h. h.0) (λ k h g. ap (λ x. x.0) g.1)))
    (λ h g. g.1.0) (λ h g. (tt, (g, refl))) (λ h g rest. simp append_assoc)

pub law_count : (least most : ℕ) → most < 2 ^ 32 → Law (count least most) (λ n. (least ≤ n) × (n ≤ most)) (λ n rest. decimal n ++ (10 ∷ rest))
law_count least most small =
    law_like (λ n. (least ≤ n) × (n ≤ most)) (λ n rest. decimal n ++ (10 ∷ rest))
    (law_line
    (law_then (law_ended word_number) (λ n. law_needs 3 (leb least n && leb n most) (law_done n)) (λ n. n) (λ n b g. g.1)))
    (λ n g. let h = and_parts (leb least n) (leb n most) g.1.0 in (leb-true least n h.0, leb-true n most h.1))
    (λ n g. (omega arith, (and_from (leb least n) (leb n most) (le-leb least n g.0) (le-leb n most g.1), refl)))
    (λ n g rest. refl)

pub law_name : Law name_line NameOk (λ w rest. ended w ++ rest)
law_name =
    law_like NameOk (λ w rest. ended w ++ rest) (law_line (law_ended word_name)) (λ w g. g) (λ w g. g) (λ w g rest. simp append_assoc)

pub law_lot : Law lot_line LotOk (λ l rest. lot_text l ++ rest)
law_lot =
    law_like LotOk (λ l rest. lot_text l ++ rest)
    (law_line
    (law_then (law_spaced word_name)
    (λ w. law_then (law_ended word_number) (λ cap. law_done (w, cap)) (λ l. l.1) (λ n l g. ap (λ x. x.1) g))
    (λ l. l.0) (λ w l g. ap (λ x. x.0) g.1)))
    (λ l g. (g.0, g.1.0)) (λ l g. (g.0, (g.1, refl))) (λ l g rest. simp append_assoc)

-- ## Entries

abbrev low_of : Entry → ℕ
low_of (Known p) = p
low_of (Range low high) = low

abbrev high_of : Entry → ℕ
high_of (Known p) = p
high_of (Range low high) = high

abbrev letter_of : Entry → Letter
letter_of (Known p) = K
letter_of (Range low high) = R

abbrev Priced : Letter → Entry → Type 0
Priced K e = Number (low_of e) × (e ≡ Known (low_of e))
Priced R e = Number (low_of e) × (Number (high_of e) × (e ≡ Range (low_of e) (high_of e)))

abbrev priced_put : Letter → Entry → List ℕ → List ℕ
priced_put K e rest = price_text (low_of e) ++ (32 ∷ rest)
priced_put R e rest = price_text (low_of e) ++ (32 ∷ (price_text (high_of e) ++ (32 ∷ rest)))

law_prices : (m : Letter) → Law (prices m) (Priced m) (priced_put m)
law_prices K = law_then (law_spaced word_price) (λ p. law_done (Known p)) low_of (λ p e g. ap low_of g)
law_prices R =
    law_then (law_spaced word_price)
    (λ low. law_then (law_spaced word_price) (λ high. law_done (Range low high)) high_of (λ p e g. ap high_of g))
    low_of (λ p e g. ap low_of g.1)

letter_priced : (m : Letter) (e : Entry) → Priced m e → letter_of e ≡ m
letter_priced K e g = ap letter_of g.1
letter_priced R e g = ap letter_of g.1.1

abbrev pub EntryForm : Entry → Type 0
EntryForm (Known p) = Number p
EntryForm (Range low high) = Number low × Number high

entry_to : (e : Entry) → Priced (letter_of e) e → EntryForm e
entry_to (Known p) g = g.0
entry_to (Range low high) g = (g.0, g.1.0)

entry_from : (e : Entry) → EntryForm e → Priced (letter_of e) e
entry_from (Known p) g = (g, refl)
entry_from (Range low high) g = (g.0, (g.1, refl))

entry_put : (e : Entry) (rest : List ℕ) → entry_text e ++ rest ≡ letter_text (letter_of e) ++ (32 ∷ priced_put (letter_of e) e rest)
entry_put (Known p) rest = simp append_assoc
entry_put (Range low high) rest = simp append_assoc

pub law_entry : Law entry EntryForm (λ e rest. entry_text e ++ rest)
law_entry =
    law_like EntryForm (λ e rest. entry_text e ++ rest)
    (law_then (law_spaced word_letter) law_prices letter_of letter_priced)
    (λ e g. entry_to e g.1) (λ e g. (tt, entry_from e g)) (λ e g rest. entry_put e rest)

-- ## Tails, elements and records

abbrev pub RouteForm : ℕ × ℕ → Type 0
RouteForm r = Number r.0 × Number r.1

pub law_route : (n : ℕ) → Law (route_tail.fields n) RouteForm (λ r rest. route_text r ++ rest)
law_route n =
    law_like RouteForm (λ r rest. route_text r ++ rest)
    (law_then (law_spaced word_number)
    (λ w. law_then (law_ended word_number) (λ cap. law_done (w, cap)) (λ l. l.1) (λ n l g. ap (λ x. x.1) g))
    (λ l. l.0) (λ w l g. ap (λ x. x.0) g.1))
    (λ l g. (g.0, g.1.0)) (λ l g. (g.0, (g.1, refl))) (λ l g rest. simp append_assoc)

pub law_lot_number : (n : ℕ) → Law (lot_tail.fields n) Number (λ r rest. lot_number_text r ++ rest)
law_lot_number n =
    law_like Number (λ r rest. lot_number_text r ++ rest) (law_ended word_number) (λ w g. g) (λ w g. g) (λ w g rest. simp append_assoc)

pub law_word : (n : ℕ) → Law (word_tail.fields n) (WordOk n) (λ r rest. word_text r ++ rest)
law_word n =
    law_like (WordOk n) (λ r rest. word_text r ++ rest) (law_ended (word_word n)) (λ w g. g) (λ w g. g) (λ w g rest. simp append_assoc)

abbrev pub ElementForm : {T : Type 0} → Tail T → (ℕ → T → Type 0) → ℕ → Element T → Type 0
ElementForm tail Form n x = EntryForm x.0 × (Form n x.1 × ((low_below_high x.0 ≡ true) × (tail.names n x.1 ≡ true)))

pub law_element : {T : Type 0} (tail : Tail T) (Form : ℕ → T → Type 0) (text : T → List ℕ) → ((n : ℕ) → Law (tail.fields n) (Form n) (λ t rest. text t ++ rest)) → (n : ℕ) → Law (element_line tail n) (ElementForm tail Form n) (λ x rest. element_text text x ++ rest)
law_element {T} tail Form text l n =
    law_like (ElementForm tail Form n) (λ x rest. element_text text x ++ rest)
    (law_line
    (law_then law_entry
    (λ e. law_then (l n) (λ t. law_needs 4 (low_below_high e) (law_needs 5 (tail.names n t) (law_done {A = Element T} (e, t)))) (λ x. x.1) (λ t x g. ap (λ x. x.1) g.1.1))
    (λ x. x.0) (λ e x g. ap (λ x. x.0) g.1.1.1)))
    (λ x g. (g.0, (g.1.0, (g.1.1.0, g.1.1.1.0)))) (λ x g. (g.0, (g.1.0, (g.1.1.0, (g.1.1.1, refl)))))
    (λ x g rest. append_assoc (entry_text x.0) (text x.1) rest)

abbrev pub RecordedForm : ℕ → Option Recorded → Recorded → Type 0
RecordedForm n before r = Number r.0 × (Number r.1 × ((ltb r.0 n ≡ true) × (rises before r.0 ≡ true)))

pub law_recorded : (n : ℕ) (before : Option Recorded) → Law (recorded_line n before) (RecordedForm n before) (λ r rest. recorded_text r ++ rest)
law_recorded n before =
    law_like (RecordedForm n before) (λ r rest. recorded_text r ++ rest)
    (law_line
    (law_then (law_spaced word_number)
    (λ k. law_then (law_ended word_price) (λ p. law_needs 5 (ltb k n) (law_needs 6 (rises before k) (law_done {A = Recorded} (k, p)))) (λ x. x.1) (λ p x g. ap (λ x. x.1) g.1.1))
    (λ x. x.0) (λ k x g. ap (λ x. x.0) g.1.1.1)))
    (λ x g. (g.0, (g.1.0, (g.1.1.0, g.1.1.1.0)))) (λ x g. (g.0, (g.1.0, (g.1.1.0, (g.1.1.1, refl)))))
    (λ x g rest. simp append_assoc)

-- ## Sections

pub law_counted : {A : Type 0} (least most : ℕ) → most < 2 ^ 32 → (item : Option A → Step A) (good : Option A → A → Type 0) (text : A → List ℕ) → ((o : Option A) → Law (item o) (good o) (λ a rest. text a ++ rest)) → Law (counted least most item) (λ xs. ((least ≤ length xs) × (length xs ≤ most)) × Chain good None xs) (λ xs rest. section text xs ++ rest)
law_counted {A} least most small item good text each =
    law_like (λ xs. ((least ≤ length xs) × (length xs ≤ most)) × Chain good None xs) (λ xs rest. section text xs ++ rest)
    (law_then (law_count least most small) (law_repeated item good (λ a rest. text a ++ rest) each) length (λ k xs g. g.0))
    (λ xs g. (g.0, g.1.1)) (λ xs g. (g.0, (refl, g.1)))
    (λ xs g rest.
    append_assoc (ended (decimal (length xs))) (flat_map text xs) rest ∙
    (append_assoc (decimal (length xs)) (10 ∷ []) (flat_map text xs ++ rest) ∙
    ap (λ t. decimal (length xs) ++ (10 ∷ t)) (put_all_joined (λ a rest. text a ++ rest) text (λ a rest. refl) xs rest)))
