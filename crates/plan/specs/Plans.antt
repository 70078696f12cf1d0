-- The plan of a sheet, and of bytes. Assumes nothing.
--     matroid_of s      the matroid of the sheet s
--     sheet_plan s      its plan
--     plan_bytes bs     the plan of the bytes bs, which may be no sheet
use Rattle.std.specs.Prelude.{ℕ, Bool, List, [], ◌∷◌, ◌++◌, map, Ok, Err, codes, decimal, Result, slice_index_or}
use Rattle.std.specs.List.{slice_get}
use Rattle.element.specs.declared.Line.{Line}
use Rattle.fault.specs.Refusals.{Refusal}
use Rattle.entry.specs.Entries.{Entry, Known}
use Rattle.kinds.specs.declared.Route.{Route}
use Rattle.kinds.specs.Lists.{routes_of, lots_of, words_of}
use Rattle.matroid.specs.Matroids.{Meaning}
use Rattle.promise.specs.Surveys.{Source}
use Rattle.promise.specs.Calls.{Call, run_with}
use Rattle.form.specs.Sheets.{Name, Recorded, Body, Sheet, routes, lots, words, spaced, ended, word_text}
use Rattle.form.specs.Reading.{checked}
use Rattle.plan.specs.Names.{mapped_or}
use Rattle.plan.specs.Meanings.{word_number}
use Rattle.plan.specs.Texts.{plan_of, rationed}

-- ## The parts of a sheet

-- the tails of the elements
abbrev pub tails : {P T : Type 0} → Body P T → List T
tails b = map (λ e. e.1) b.elements

-- the entry of each element
abbrev pub entries_in : {P T : Type 0} → Body P T → ℕ → Entry
entries_in b i = slice_index_or (map (λ e. e.0) b.elements) i (Known 0)

-- a recorded price as a line of prices
abbrev pub line_of : Recorded → Line
line_of r = record { element = r.0; price = r.1 }

-- the recorded prices, no more of them than the allowance
abbrev pub source_in : {P T : Type 0} → Body P T → Source
source_in b = rationed (map line_of b.recorded) b.allowance

-- the name of each element, where `named` names a tail
abbrev pub names_in : {P T : Type 0} → (T → List ℕ) → Body P T → ℕ → List ℕ
names_in named b i = mapped_or [] (λ e. named e.1) (slice_get b.elements i)

-- ## Its matroid

-- the two places of a route
abbrev pub route_from : ℕ × ℕ → Route
route_from r = record { from = r.0; to = r.1 }

-- routes between places, elements in lots with caps, or words
abbrev pub matroid_of : Sheet → Meaning
matroid_of (routes b) = routes_of (map route_from (tails b))
matroid_of (lots b) = lots_of (tails b) (map (λ l. l.1) b.places)
matroid_of (words b) = words_of (map word_number (tails b))

-- what is known of the prices
abbrev pub entries_of : Sheet → ℕ → Entry
entries_of (routes b) = entries_in b
entries_of (lots b) = entries_in b
entries_of (words b) = entries_in b

-- whence prices come
abbrev pub source_of : Sheet → Source
source_of (routes b) = source_in b
source_of (lots b) = source_in b
source_of (words b) = source_in b

-- ## Its plan

-- how an element is named: by its two places,
abbrev pub route_name : List Name → ℕ × ℕ → List ℕ
route_name names r = spaced (slice_index_or names r.0 []) ++ ended (slice_index_or names r.1 [])

-- by its lot,
abbrev pub lot_name : List (Name × ℕ) → ℕ → List ℕ
lot_name ls k = ended (slice_index_or (map (λ l. l.0) ls) k [])

-- or by its word
abbrev pub word_name : List Name → List Bool → List ℕ
word_name lamps w = word_text w

-- the names of the elements
abbrev pub names_of : Sheet → ℕ → List ℕ
names_of (routes b) = names_in (route_name b.places) b
names_of (lots b) = names_in (lot_name b.places) b
names_of (words b) = names_in (word_name b.places) b

-- the plan of a sheet: its survey is run with its recorded prices
abbrev pub sheet_plan : Sheet → List ℕ
sheet_plan s = plan_of (matroid_of s) (entries_of s) (source_of s) (names_of s)

-- a sheet that is refused
abbrev pub refused_text : Refusal → List ℕ
refused_text f = spaced (codes "refused") ++ (spaced (decimal f.number) ++ ended (decimal f.place))

-- the plan of a sheet, or its refusal
abbrev pub answer_plan : Result Sheet Refusal → List ℕ
answer_plan (Ok s) = sheet_plan s
answer_plan (Err f) = refused_text f

-- the plan of bytes
abbrev pub plan_bytes : List ℕ → List ℕ
plan_bytes bs = answer_plan (checked bs)

-- the call that a plan makes on a survey of the sheet
abbrev pub plan_calls : Sheet → List Call
plan_calls s = run_with (source_of s) ∷ []
