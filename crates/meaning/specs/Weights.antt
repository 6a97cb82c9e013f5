-- What there is weighs: the sum by which a house is full.
-- Assumes nothing.
use Rattle.std.specs.Prelude.{ℕ, zero, suc, ◌+◌, ◌*◌, cond, not, ◌&&◌, List, [], ◌∷◌, length, ◌==◌}
use Rattle.meaning.specs.Rooms.{Version, Object, Part, Upload, Room, State}
use Rattle.meaning.specs.Does.{bytes_of}

-- the second less the first, and nothing where that is more
unfoldable pub less_by : ℕ → ℕ → ℕ
less_by zero m = m
less_by (suc k) zero = 0
less_by (suc k) (suc m) = less_by k m

-- what there is weighs: whole blocks of 16,384, and 1,024, for each version and part; and names
unfoldable pub blocks : ℕ → ℕ → ℕ
blocks zero n = 0
blocks (suc fuel) n = cond (n == 0) 0 (1 + blocks fuel (less_by 16384 n))

abbrev pub body_weight : List ℕ → ℕ
body_weight bs = 1024 + 16384 * blocks (length bs) (length bs)

unfoldable pub versions_weight : List Version → ℕ
versions_weight [] = 0
versions_weight (v ∷ []) = body_weight (bytes_of v.body)
versions_weight (v ∷ w ∷ vs) = cond (v.num == 0 && not (w.num == 0)) 0 (body_weight (bytes_of v.body)) + versions_weight (w ∷ vs)

unfoldable pub objects_weight : List Object → ℕ
objects_weight [] = 0
objects_weight (o ∷ os) = 1024 + versions_weight o.versions + objects_weight os

unfoldable pub parts_weight : List Part → ℕ
parts_weight [] = 0
parts_weight (p ∷ ps) = body_weight p.bytes + parts_weight ps

unfoldable pub uploads_weight : List Upload → ℕ
uploads_weight [] = 0
uploads_weight (u ∷ us) = 1024 + parts_weight u.parts + uploads_weight us

unfoldable pub rooms_weight : List Room → ℕ
rooms_weight [] = 0
rooms_weight (r ∷ rs) = 32768 + objects_weight r.objects + uploads_weight r.uploads + rooms_weight rs

abbrev pub weight : State → ℕ
weight s = rooms_weight s.rooms
