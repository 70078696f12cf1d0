-- The kinds, each by the list of what its elements are. Assumes nothing.
use Rattle.std.specs.Prelude.{ℕ, List, length, slice_index, slice_index_or}
use Rattle.matroid.specs.Matroids.{Meaning}
use Rattle.kinds.specs.declared.Route.{Route}
use Rattle.kinds.specs.Kinds.{routes, lots, words}

-- the places that a route can join: one for each number that a place can have
abbrev pub all_places : ℕ
all_places = 256

-- the place that route i starts from
abbrev pub from : List Route → ℕ → ℕ
from rs i = (slice_index_or rs i (record { from = 0; to = 0 })).from

-- the place that route i leads to
abbrev pub to : List Route → ℕ → ℕ
to rs i = (slice_index_or rs i (record { from = 0; to = 0 })).to

-- the number at i; 0 beyond the list
abbrev pub at : List ℕ → ℕ → ℕ
at l i = slice_index l i

-- routes between places
abbrev pub routes_of : List Route → Meaning
routes_of rs = routes (length rs) all_places (from rs) (to rs)

-- elements, each by its lot, and the caps of the lots; a lot beyond the list of caps has cap 0
abbrev pub lots_of : List ℕ → List ℕ → Meaning
lots_of ls caps = lots (length ls) (at ls) (at caps)

-- words
abbrev pub words_of : List ℕ → Meaning
words_of ws = words (length ws) (at ws)
