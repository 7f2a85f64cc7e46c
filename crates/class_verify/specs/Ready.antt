-- What the code keeps of the code of a method: tables by pc beside its parts.
use Rattle.std.specs.Prelude.{◌≡◌, ℕ, ◌<◌, ◌≤◌, Bool, false, List, length, slice_index_or, slice_get, option_and_then, Option, None, Some}
use Rattle.class_verify.specs.declared.body.Body as parts
use Rattle.class_verify.specs.declared.body.Spot as spots
use Rattle.class_verify.specs.declared.frames.Written.{Written}
use Rattle.class_verify.specs.Bodies.{Body, Point}
use Rattle.class_verify.specs.Frames.{frame_at}
use Rattle.class_verify.specs.Places.{begins}
use Rattle.class_verify.specs.ConstantTables.{AreTables}
use Rattle.std.specs.Prelude.{if◌then◌else◌}

abbrev pub plain : parts.Body → Body
plain b = record {
  class = b.class.now;
  result = b.result;
  limits = b.limits;
  code = b.code.now;
  table = b.table.now;
  first = b.first;
  frames = b.frames;
}

-- the table says of each pc whether an instruction begins there
abbrev pub IsMarked : List ℕ → List Bool → Type 0
IsMarked code marks = (pc : ℕ) → slice_index_or marks pc false ≡ begins code pc

abbrev pub frame_of : List Written → Option ℕ → Option Written
frame_of frames found = option_and_then (slice_get frames) found

-- the table has for each pc the place of its frame
abbrev pub IsFramed : List ℕ → List Written → List (Option ℕ) → Type 0
IsFramed code frames table = (pc : ℕ) → frame_of frames (slice_index_or table pc None) ≡ frame_at code frames pc

pub record IsReady (b : parts.Body) : Type 0 where
  pub tables : AreTables b.class.now b.tables.now
  pub some : 0 < length b.code.now
  pub short : length b.code.now ≤ 65535
  pub marked : IsMarked b.code.now b.marks.items
  pub framed : IsFramed b.code.now b.frames b.framed.items

-- the point at which the code stands
abbrev pub seen : spots.Spot → Point
seen spot = record { pc = spot.pc; arrives = if spot.is_reached then Some spot.shape else None }
