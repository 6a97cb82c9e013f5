-- The calls as bytes: a line is the length of the rest, a tag, and the call; a call is its kind and its fields.
-- Assumes nothing.
use Rattle.std.specs.Prelude.{ℕ, zero, suc, ◌+◌, Bool, true, false, cond, List, [], ◌∷◌, ◌++◌, length, Some, None, Option, ◌==◌}
use Rattle.meaning.specs.Lists.{Name}
use Rattle.meaning.specs.Rooms.{Rule, Expect, Any, Absent, Is, Call, MakeRoom, DropRoom, Put, Get, Remove, Look, Versions, Begin, PutPart, Complete, Abort, Hold, SetRules, Tick}
use Rattle.lines.specs.Fields.{Took, ◌then◌, number, number_in, counted, counted_in}

-- the bytes of several fields
abbrev pub together : List (List ℕ) → List ℕ
together [] = []
together (f ∷ fs) = f ++ together fs

abbrev pub name : Name → List ℕ
name n = counted 1 n

abbrev pub name_in : List ℕ → Option (Took Name)
name_in l = counted_in 1 l

abbrev pub content : List ℕ → List ℕ
content bs = counted 4 bs

abbrev pub content_in : List ℕ → Option (Took (List ℕ))
content_in l = counted_in 4 l

abbrev pub flag : Bool → List ℕ
flag b = number 1 (cond b 1 0)

abbrev pub flag_of : ℕ → List ℕ → Option (Took Bool)
flag_of n l = cond (n == 0) (Some (record { value = false; rest = l })) (cond (n == 1) (Some (record { value = true; rest = l })) None)

abbrev pub flag_in : List ℕ → Option (Took Bool)
flag_in l = number_in 1 l then (λ n l. flag_of n l)

abbrev pub expected : Expect → List ℕ
expected Any = number 1 0
expected Absent = number 1 1
expected (Is n) = number 1 2 ++ number 8 n

abbrev pub expected_of : ℕ → List ℕ → Option (Took Expect)
expected_of k l =
    cond (k == 0) (Some (record { value = Any; rest = l }))
    (cond (k == 1) (Some (record { value = Absent; rest = l }))
    (cond (k == 2) (number_in 8 l then (λ n l. Some (record { value = Is n; rest = l }))) None))

abbrev pub expected_in : List ℕ → Option (Took Expect)
expected_in l = number_in 1 l then (λ k l. expected_of k l)

-- how long the latest lasts, then the older ones
abbrev pub rule : Rule → List ℕ
rule x = together (name x.prefix ∷ number 8 x.lasts ∷ number 8 x.old_lasts ∷ [])

abbrev pub rule_in : List ℕ → Option (Took Rule)
rule_in l = name_in l then (λ n l. number_in 8 l then (λ a l. number_in 8 l then (λ b l. Some (record { value = record { prefix = n; lasts = a; old_lasts = b }; rest = l }))))

-- n of a kind, one after the other
unfoldable pub many_in : {A : Type 0} → (List ℕ → Option (Took A)) → ℕ → List ℕ → Option (Took (List A))
many_in read zero l = Some (record { value = []; rest = l })
many_in read (suc n) l = read l then (λ x l. many_in read n l then (λ xs l. Some (record { value = x ∷ xs; rest = l })))

unfoldable pub many : {A : Type 0} → (A → List ℕ) → List A → List ℕ
many write [] = []
many write (x ∷ xs) = write x ++ many write xs

abbrev pub whole : {A : Type 0} → Option (Took A) → Bool
whole None = false
whole (Some t) = length t.rest == 0

-- are these just n of a kind
abbrev pub are_many : {A : Type 0} → (List ℕ → Option (Took A)) → ℕ → List ℕ → Bool
are_many read n l = whole (many_in read n l)

abbrev pub listed : {A : Type 0} → Option (Took (List A)) → List A
listed None = []
listed (Some t) = t.value

-- those n
abbrev pub all_in : {A : Type 0} → (List ℕ → Option (Took A)) → ℕ → List ℕ → List A
all_in read n l = listed (many_in read n l)

-- THE BYTES OF A CALL

abbrev pub call_bytes : Call → List ℕ
call_bytes (MakeRoom n k) = together (number 1 1 ∷ name n ∷ flag k ∷ [])
call_bytes (DropRoom n) = together (number 1 2 ∷ name n ∷ [])
call_bytes (Put n k bs x) = together (number 1 3 ∷ name n ∷ name k ∷ expected x ∷ content bs ∷ [])
call_bytes (Get n k num from most) = together (number 1 4 ∷ name n ∷ name k ∷ number 8 num ∷ number 8 from ∷ number 4 most ∷ [])
call_bytes (Remove n k num) = together (number 1 5 ∷ name n ∷ name k ∷ number 8 num ∷ [])
call_bytes (Look n p after most) = together (number 1 6 ∷ name n ∷ name p ∷ name after ∷ number 2 most ∷ [])
call_bytes (Versions n k) = together (number 1 7 ∷ name n ∷ name k ∷ [])
call_bytes (Begin n k) = together (number 1 8 ∷ name n ∷ name k ∷ [])
call_bytes (PutPart n u p bs) = together (number 1 9 ∷ name n ∷ number 8 u ∷ number 2 p ∷ content bs ∷ [])
call_bytes (Complete n u x) = together (number 1 10 ∷ name n ∷ number 8 u ∷ expected x ∷ [])
call_bytes (Abort n u) = together (number 1 11 ∷ name n ∷ number 8 u ∷ [])
call_bytes (Hold n k num until) = together (number 1 12 ∷ name n ∷ name k ∷ number 8 num ∷ number 8 until ∷ [])
call_bytes (SetRules n rs) = together (number 1 13 ∷ name n ∷ number 1 (length rs) ∷ many rule rs ∷ [])
call_bytes (Tick t) = together (number 1 14 ∷ number 8 t ∷ [])

-- a line with that tag
unfoldable pub line_of : (tag : ℕ) → List ℕ → List ℕ
line_of tag body = together (number 4 (4 + length body) ∷ number 4 tag ∷ body ∷ [])

-- WHAT A LINE SAYS

-- nothing may stand behind the last field
abbrev pub at_end : {A : Type 0} → List ℕ → A → Option A
at_end l c = cond (length l == 0) (Some c) None

abbrev pub make_room_in : List ℕ → Option Call
make_room_in l = name_in l then (λ n l. flag_in l then (λ k l. at_end l (MakeRoom n k)))

abbrev pub drop_room_in : List ℕ → Option Call
drop_room_in l = name_in l then (λ n l. at_end l (DropRoom n))

abbrev pub put_in : List ℕ → Option Call
put_in l = name_in l then (λ n l. name_in l then (λ k l. expected_in l then (λ x l. content_in l then (λ bs l. at_end l (Put n k bs x)))))

abbrev pub get_in : List ℕ → Option Call
get_in l = name_in l then (λ n l. name_in l then (λ k l. number_in 8 l then (λ num l. number_in 8 l then (λ from l. number_in 4 l then (λ most l. at_end l (Get n k num from most))))))

abbrev pub remove_in : List ℕ → Option Call
remove_in l = name_in l then (λ n l. name_in l then (λ k l. number_in 8 l then (λ num l. at_end l (Remove n k num))))

abbrev pub look_in : List ℕ → Option Call
look_in l = name_in l then (λ n l. name_in l then (λ p l. name_in l then (λ after l. number_in 2 l then (λ most l. at_end l (Look n p after most)))))

abbrev pub versions_in : List ℕ → Option Call
versions_in l = name_in l then (λ n l. name_in l then (λ k l. at_end l (Versions n k)))

abbrev pub begin_in : List ℕ → Option Call
begin_in l = name_in l then (λ n l. name_in l then (λ k l. at_end l (Begin n k)))

abbrev pub part_in : List ℕ → Option Call
part_in l = name_in l then (λ n l. number_in 8 l then (λ u l. number_in 2 l then (λ p l. content_in l then (λ bs l. at_end l (PutPart n u p bs)))))

abbrev pub complete_in : List ℕ → Option Call
complete_in l = name_in l then (λ n l. number_in 8 l then (λ u l. expected_in l then (λ x l. at_end l (Complete n u x))))

abbrev pub abort_in : List ℕ → Option Call
abort_in l = name_in l then (λ n l. number_in 8 l then (λ u l. at_end l (Abort n u)))

abbrev pub hold_in : List ℕ → Option Call
hold_in l = name_in l then (λ n l. name_in l then (λ k l. number_in 8 l then (λ num l. number_in 8 l then (λ until l. at_end l (Hold n k num until)))))

abbrev pub rules_in : List ℕ → Option Call
rules_in l = name_in l then (λ n l. number_in 1 l then (λ count l. many_in rule_in count l then (λ rs l. at_end l (SetRules n rs))))

abbrev pub time_in : List ℕ → Option Call
time_in l = number_in 8 l then (λ t l. at_end l (Tick t))

-- by the kind
abbrev pub fields_in : ℕ → List ℕ → Option Call
fields_in k l =
    cond (k == 1) (make_room_in l) (cond (k == 2) (drop_room_in l) (cond (k == 3) (put_in l) (cond (k == 4) (get_in l)
    (cond (k == 5) (remove_in l) (cond (k == 6) (look_in l) (cond (k == 7) (versions_in l) (cond (k == 8) (begin_in l)
    (cond (k == 9) (part_in l) (cond (k == 10) (complete_in l) (cond (k == 11) (abort_in l) (cond (k == 12) (hold_in l)
    (cond (k == 13) (rules_in l) (cond (k == 14) (time_in l) None)))))))))))))

-- what a line begins with, behind its length
pub record Head : Type 0 where
  pub tag : ℕ
  pub kind : ℕ

-- the tag and the kind, of a line whose length is right, and the bytes after them
abbrev pub head_in : List ℕ → Option (Took Head)
head_in l =
    number_in 4 l then (λ n l. cond (n == length l)
    (number_in 4 l then (λ tag l. number_in 1 l then (λ kind l. Some (record { value = record { tag = tag; kind = kind }; rest = l })))) None)

-- the call, of a line that is one
abbrev pub call_in : List ℕ → Option Call
call_in l = head_in l then (λ h l. fields_in h.kind l)
