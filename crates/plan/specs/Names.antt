-- How a kept element is named. Assumes nothing.
use Rattle.std.specs.Prelude.{ℕ, List, [], ◌++◌, map, Some, None, vec_items, Option, slice_index_or}
use Rattle.std.specs.Borrow.{Bor}
use Rattle.std.specs.List.{slice_get}
use Rattle.sheet.specs.declared.values.Body.{Body}
use Rattle.sheet.specs.declared.values.ElementLine.{ElementLine}
use Rattle.kinds.specs.declared.Route.{Route}
use Rattle.sheet.specs.declared.values.Lot.{Lot}
use Rattle.form.specs.Sheets.{Name, spaced, ended, word_text}
use Rattle.sheet.specs.Code.{bytes, lot_of, word_of}

-- what is made of a value, or the default
abbrev pub mapped_or : {A B : Type 0} → B → (A → B) → Option A → B
mapped_or d f None = d
mapped_or d f (Some x) = f x

-- the name at a number of the list, or the empty one
abbrev pub name_at : List (Bor (List ℕ)) → ℕ → Name
name_at names i = slice_index_or (map bytes names) i []

-- the same of a list of lots
abbrev pub lot_at : List Lot → ℕ → Name
lot_at lots i = slice_index_or (map (λ l. (lot_of l).0) lots) i []

-- the two places of a route
abbrev pub route_name_text : List (Bor (List ℕ)) → Route → List ℕ
route_name_text names r = spaced (name_at names r.from) ++ ended (name_at names r.to)

-- the lot of an element
abbrev pub lot_name_text : List Lot → ℕ → List ℕ
lot_name_text lots k = ended (lot_at lots k)

-- the word of an element
abbrev pub word_name_text : List (Bor (List ℕ)) → Bor (List ℕ) → List ℕ
word_name_text names w = word_text (word_of w)

-- the name of the element at a number of the list, where `named` names a tail
abbrev pub name_of : {T : Type 0} → (T → List ℕ) → List (ElementLine T) → ℕ → List ℕ
name_of named es i = mapped_or [] (λ e. named e.tail) (slice_get es i)

-- the same of a body, where `named` names a tail among the places
abbrev pub held_names : {P T : Type 0} → (List P → T → List ℕ) → Body P T → ℕ → List ℕ
held_names named b = name_of (named (vec_items b.places)) (vec_items b.elements)
