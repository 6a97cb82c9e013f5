-- The length of a line, field by field.
use Rattle.std.proofs.Common.{◌≡◌, ℕ, ◌+◌, ◌<◌, ◌≤◌, Bool, true, false, cond, ◌&&◌, ltb, leb, List, [], ◌∷◌, ◌++◌, length, get_or, drop, Some, None, Option, sym, refl, ap, ◌∙◌, add_assoc, arith, length-append}
use Rattle.std.proofs.lemmas.List.{append-nil, drop_more}
use Rattle.std.proofs.lemmas.Bool.Decides.{nat_tests}
use Rattle.meaning.specs.Lists.{every}
use Rattle.lines.specs.Calls.{many, line_of}
use Rattle.fills.specs.declared.Field.{Field}
use Rattle.fills.specs.declared.Field.TheVariants.{U8}
use Rattle.fills.specs.Fills.{field_bytes, field_fits, body_bytes, sized, Wrote}

pub body_more : (f : Field) (fs : List Field) → body_bytes (f ∷ fs) ≡ field_bytes f ++ body_bytes fs
unfolding many
body_more f fs = refl

pub fit_more : (f : Field) (fs : List Field) → every field_fits (f ∷ fs) ≡ (field_fits f && every field_fits fs)
unfolding every
fit_more f fs = refl

-- the field at a place of the list, as code reads it
abbrev pub at : List Field → ℕ → Field
at fs i = get_or fs i (U8 0)

pub body_step : (fs : List Field) (i : ℕ) → i < length fs → body_bytes (drop i fs) ≡ field_bytes (at fs i) ++ body_bytes (drop (i + 1) fs)
body_step fs i h = ap body_bytes (drop_more fs i (U8 0) h) ∙ body_more (at fs i) (drop (i + 1) fs)

and_true : (a b : Bool) → (a && b) ≡ true → (a ≡ true) × (b ≡ true)
and_true true b h = (refl, h)
and_true false b h = (h, cc)

pub fit_step : (fs : List Field) (i : ℕ) → i < length fs → every field_fits (drop i fs) ≡ true → (field_fits (at fs i) ≡ true) × (every field_fits (drop (i + 1) fs) ≡ true)
fit_step fs i h e = and_true _ _ (sym (ap (every field_fits) (drop_more fs i (U8 0) h) ∙ fit_more (at fs i) (drop (i + 1) fs)) ∙ e)

-- what the size of a field told
abbrev pub Told : Option ℕ → Field → Type 0
Told o f = o ≡ cond (field_fits f && ltb (length (field_bytes f)) 4294967296) (Some (length (field_bytes f))) None

pub told_some : (b : Bool) (n m : ℕ) → Some n ≡ cond b (Some m) None → (b ≡ true) × (n ≡ m)
told_some true n m e = (refl, cc)
told_some false n m e = (cc, cc)

told_none : (b : Bool) (m : ℕ) → None ≡ cond b (Some m) None → b ≡ false
told_none true m e = cc
told_none false m e = refl

go_over : (b : Bool) (m : ℕ) → 4294967296 ≤ m → cond (b && ltb m 4294967296) (Some m) None ≡ None
go_over true m l = grind (arith, nat_tests)
go_over false m l = refl

sized_more : (n : ℕ) (f : Field) (fs : List Field) → field_fits f ≡ true → sized n (f ∷ fs) ≡ sized (n + length (field_bytes f)) fs
unfolding every many
sized_more n f fs e = rw (e, length-append, ← add_assoc)

not_both : (b others : Bool) (m n : ℕ) → (b && ltb m 4294967296) ≡ false → m ≤ n → cond ((b && others) && ltb n 4294967296) (Some n) None ≡ None
not_both true others m n e h = go_over others n (grind (arith, nat_tests))
not_both false others m n e h = refl

sized_not : (n : ℕ) (f : Field) (fs : List Field) → (field_fits f && ltb (length (field_bytes f)) 4294967296) ≡ false → sized n (f ∷ fs) ≡ None
sized_not n f fs e =
    let more = body_more f fs in
    rw (fit_more f fs) (not_both (field_fits f) (every field_fits fs) (length (field_bytes f)) (n + length (body_bytes (f ∷ fs))) e (omega (arith, ap length more, length-append (field_bytes f) (body_bytes fs))))

pub sized_step : (fs : List Field) (i n m : ℕ) → i < length fs → Told (Some m) (at fs i) → sized n (drop i fs) ≡ sized (n + m) (drop (i + 1) fs)
sized_step fs i n m h e =
    let t = told_some _ _ _ e in
    ap (sized n) (drop_more fs i (U8 0) h) ∙ sized_more n (at fs i) (drop (i + 1) fs) (and_true _ _ t.0).0 ∙ ap (λ (k : ℕ). sized (n + k) (drop (i + 1) fs)) (sym t.1)

pub sized_stop : (fs : List Field) (i n : ℕ) → i < length fs → Told None (at fs i) → sized n (drop i fs) ≡ None
sized_stop fs i n h e = ap (sized n) (drop_more fs i (U8 0) h) ∙ sized_not n (at fs i) (drop (i + 1) fs) (told_none _ _ e)

pub sized_over : (fs : List Field) (i n : ℕ) → 4294967296 ≤ n → sized n (drop i fs) ≡ None
sized_over fs i n h = go_over (every field_fits (drop i fs)) (n + length (body_bytes (drop i fs))) (omega arith)

pub sized_none : (n : ℕ) → n < 4294967296 → sized n [] ≡ Some n
unfolding every many
sized_none n h = grind (arith, nat_tests)

pub body_none : body_bytes [] ≡ []
unfolding many
body_none = refl

-- a line that fits, in a buffer that has room for it
pub goes : (fits : Bool) (line out : List ℕ) (n : ℕ) (after : List ℕ) → fits ≡ true → length line ≤ length out → n ≡ length line → after ≡ line ++ drop (length line) out → Wrote fits line out (Some n) after
goes fits line out n after e h p q =
    let t : (fits && leb (length line) (length out)) ≡ true = grind (arith, nat_tests) in
    record { told_is = rw t (ap Some p); after_is = rw t q }

-- a line that doesn't, or for which there is no room
pub stays : (fits : Bool) (line out : List ℕ) → (fits && leb (length line) (length out)) ≡ false → Wrote fits line out None out
stays fits line out t = record { told_is = rw t; after_is = rw t }

pub line_long : (tag : ℕ) (body : List ℕ) → length (line_of tag body) ≡ 8 + length body
unfolding line_of
line_long tag body = omega (arith, ap length (append-nil body))
