-- Worked examples: calls with their replies, each row played from a blank house.
-- Assumes nothing.
use Rattle.std.specs.Prelude.{Bool, true, false, ◌&&◌, T, List, [], ◌∷◌, ◌++◌, codes, ◌==◌}
use Rattle.meaning.specs.Lists.{Name, every, same}
use Rattle.meaning.specs.Rooms.{State, blank, Any, Absent, Is, Call, MakeRoom, Put, Get, Remove, Look, Begin, PutPart, Complete, Hold, SetRules, Tick, Shown, Reply, No, Yes, Num, Got, List', Full}
use Rattle.meaning.specs.Does.{does}

-- a call, and what it is to be answered
pub record Step : Type 0 where
  pub call : Call
  pub reply : Reply

abbrev pub step : Call → Reply → Step
step c r = record { call = c; reply = r }

unfoldable pub same_shown : List Shown → List Shown → Bool
same_shown [] [] = true
same_shown [] (y ∷ ys) = false
same_shown (x ∷ xs) [] = false
same_shown (x ∷ xs) (y ∷ ys) = same x.key y.key && x.num == y.num && x.size == y.size && same_shown xs ys

unfoldable pub same_reply : Reply → Reply → Bool
same_reply (No a) (No b) = a == b
same_reply (No a) Yes = false
same_reply (No a) (Num b) = false
same_reply (No a) (Got b z bs) = false
same_reply (No a) (List' ys) = false
same_reply (No a) Full = false
same_reply Yes (No b) = false
same_reply Yes Yes = true
same_reply Yes (Num b) = false
same_reply Yes (Got b z bs) = false
same_reply Yes (List' ys) = false
same_reply Yes Full = false
same_reply (Num a) (No b) = false
same_reply (Num a) Yes = false
same_reply (Num a) (Num b) = a == b
same_reply (Num a) (Got b z bs) = false
same_reply (Num a) (List' ys) = false
same_reply (Num a) Full = false
same_reply (Got a y cs) (No b) = false
same_reply (Got a y cs) Yes = false
same_reply (Got a y cs) (Num b) = false
same_reply (Got a y cs) (Got b z bs) = a == b && y == z && same cs bs
same_reply (Got a y cs) (List' ys) = false
same_reply (Got a y cs) Full = false
same_reply (List' xs) (No b) = false
same_reply (List' xs) Yes = false
same_reply (List' xs) (Num b) = false
same_reply (List' xs) (Got b z bs) = false
same_reply (List' xs) (List' ys) = same_shown xs ys
same_reply (List' xs) Full = false
same_reply Full (No b) = false
same_reply Full Yes = false
same_reply Full (Num b) = false
same_reply Full (Got b z bs) = false
same_reply Full (List' ys) = false
same_reply Full Full = true

-- is each call answered so, one after the other
unfoldable pub plays : State → List Step → Bool
plays s [] = true
plays s (x ∷ xs) = same_reply (does x.call s).reply x.reply && plays (does x.call s).state xs

abbrev r : Name
r = codes "r"

abbrev a : Name
a = codes "a"

abbrev b : Name
b = codes "b"

abbrev c : Name
c = codes "c"

-- two versions in a room that keeps
abbrev pub versions : List Step
versions =
    step (Tick 1) Yes
    ∷ step (MakeRoom r true) Yes
    ∷ step (Put r a (codes "old") Any) (Num 1)
    ∷ step (Put r a (codes "late") Absent) (No 4)
    ∷ step (Put r a (codes "new!") (Is 1)) (Num 2)
    ∷ step (Get r a 0 0 100) (Got 2 4 (codes "new!"))
    ∷ step (Get r a 1 0 100) (Got 1 3 (codes "old"))
    ∷ []

-- a removal, and the removal of the removal
abbrev pub removing : List Step
removing =
    versions
    ++ (step (Remove r a 0) (Num 3)
    ∷ step (Get r a 0 0 100) (No 2)
    ∷ step (Look r [] [] 10) (List' [])
    ∷ step (Remove r a 3) Yes
    ∷ step (Get r a 0 0 100) (Got 2 4 (codes "new!"))
    ∷ [])

-- a hold, and its end
abbrev pub holding : List Step
holding =
    versions
    ++ (step (Hold r a 1 100) Yes
    ∷ step (Remove r a 1) (No 6)
    ∷ step (Tick 100) Yes
    ∷ step (Remove r a 1) Yes
    ∷ step (Get r a 1 0 100) (No 2)
    ∷ [])

-- a rule for older versions takes the first, and leaves the second
abbrev pub ruling : List Step
ruling =
    removing
    ++ (step (SetRules r (record { prefix = a; lasts = 0; old_lasts = 10 } ∷ [])) Yes
    ∷ step (Tick 21) Yes
    ∷ step (Get r a 1 0 100) (No 2)
    ∷ step (Get r a 0 0 100) (Got 2 4 (codes "new!"))
    ∷ [])

-- the same rule, with the first version held
abbrev pub ruling_held : List Step
ruling_held =
    removing
    ++ (step (Hold r a 1 100) Yes
    ∷ step (SetRules r (record { prefix = a; lasts = 0; old_lasts = 10 } ∷ [])) Yes
    ∷ step (Tick 21) Yes
    ∷ step (Get r a 1 0 100) (Got 1 3 (codes "old"))
    ∷ step (Get r a 0 0 100) (Got 2 4 (codes "new!"))
    ∷ [])

-- a room that doesn't keep: the first goes when the second comes
abbrev pub replacing : List Step
replacing =
    step (Tick 1) Yes
    ∷ step (MakeRoom r false) Yes
    ∷ step (Put r b (codes "one") Any) (Num 1)
    ∷ step (Put r b (codes "two") Any) (Num 2)
    ∷ step (Get r b 1 0 100) (No 2)
    ∷ step (Get r b 0 0 100) (Got 2 3 (codes "two"))
    ∷ []

-- .. unless it was held
abbrev pub replacing_held : List Step
replacing_held =
    step (Tick 1) Yes
    ∷ step (MakeRoom r false) Yes
    ∷ step (Put r b (codes "one") Any) (Num 1)
    ∷ step (Hold r b 1 100) Yes
    ∷ step (Put r b (codes "two") Any) (Num 2)
    ∷ step (Get r b 1 0 100) (Got 1 3 (codes "one"))
    ∷ step (Get r b 0 0 100) (Got 2 3 (codes "two"))
    ∷ []

-- an upload with a gap, and without
abbrev pub uploading : List Step
uploading =
    step (Tick 1) Yes
    ∷ step (MakeRoom r true) Yes
    ∷ step (Begin r c) (Num 1)
    ∷ step (PutPart r 1 1 (codes "x")) Yes
    ∷ step (PutPart r 1 3 (codes "z")) Yes
    ∷ step (Complete r 1 Any) (No 7)
    ∷ step (PutPart r 1 2 (codes "y")) Yes
    ∷ step (Complete r 1 Any) (Num 2)
    ∷ step (Get r c 0 0 100) (Got 2 3 (codes "xyz"))
    ∷ []

abbrev pub examples : List (List Step)
examples = versions ∷ removing ∷ holding ∷ ruling ∷ ruling_held ∷ replacing ∷ replacing_held ∷ uploading ∷ []

abbrev pub ExamplesPlay : Type 0
ExamplesPlay = T (every (plays blank) examples)
