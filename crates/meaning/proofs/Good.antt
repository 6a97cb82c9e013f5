-- The invariant of every state that calls lead to. `good`, that it holds of each, is in Bounds.
-- Assumes nothing.
use Rattle.std.proofs.Common.{◌≡◌, ◌<◌, ◌≤◌, Bool, true, false, List, [], ◌∷◌}
use mathlib.Core.List.{Memᴰ}
use Rattle.meaning.specs.Lists.{Name, less}
use Rattle.meaning.specs.Rooms.{Version, Object, Part, Upload, Room, State}
use Rattle.meaning.specs.Laws.{Fits, versions_in}

-- of each two of a list, the first stands so to the second
abbrev pub Pairs : {A : Type 0} → (A → A → Type 0) → List A → Type 0
Pairs R [] = Unit {0}
Pairs {A} R (x ∷ xs) = ((y : A) → Memᴰ y xs → R x y) × Pairs R xs

abbrev pub Apart : Room → Room → Type 0
Apart r q = r.name ≡ q.name → ⊥

abbrev pub Before : Object → Object → Type 0
Before o p = less o.key p.key ≡ true

-- how a version stands to any below it; where older ones aren't kept, only what was held stays below
pub record Over (keeps : Bool) (v w : Version) : Type 0 where
  pub later : w.at ≤ v.at
  pub higher : 1 ≤ v.num → w.num < v.num
  pub was_held : keeps ≡ false → 1 ≤ w.held

abbrev pub Earlier : Part → Part → Type 0
Earlier x y = x.place < y.place

abbrev pub Begun : Upload → Upload → Type 0
Begun u w = u.num < w.num

pub record RoomGood (r : Room) : Type 0 where
  pub keys_rise : Pairs Before r.objects
  pub stacked : (o : Object) → Memᴰ o r.objects → Pairs (Over r.keeps) o.versions
  pub uploads_rise : Pairs Begun r.uploads
  pub parts_rise : (u : Upload) → Memᴰ u r.uploads → Pairs Earlier u.parts

-- a version's number is in one room, under one key
abbrev pub Once : State → Type 0
Once s = (n m k l : Name) (v w : Version) → Memᴰ v (versions_in n k s) → Memᴰ w (versions_in m l s) → 1 ≤ v.num → v.num ≡ w.num → (n ≡ m) × (k ≡ l)

-- an upload's number is in one room, and no version has it
pub record UploadsOnce (s : State) : Type 0 where
  pub one_room : (r q : Room) (u w : Upload) → Memᴰ r s.rooms → Memᴰ q s.rooms → Memᴰ u r.uploads → Memᴰ w q.uploads → u.num ≡ w.num → r.name ≡ q.name
  pub no_version : (r : Room) (u : Upload) (n k : Name) (v : Version) → Memᴰ r s.rooms → Memᴰ u r.uploads → Memᴰ v (versions_in n k s) → u.num ≡ v.num → ⊥

pub record Good (s : State) : Type 0 where
  pub fits : Fits s
  pub rooms_apart : Pairs Apart s.rooms
  pub rooms_good : (r : Room) → Memᴰ r s.rooms → RoomGood r
  pub once : Once s
  pub uploads_once : UploadsOnce s
