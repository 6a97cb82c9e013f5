-- Bytes that are put one after the other.
use Rattle.std.proofs.Common.{◌≡◌, ℕ, ◌+◌, ◌≤◌, List, [], ◌++◌, length, take, drop, sym, refl, ap, ◌∙◌, subst, add-zero, add_assoc, zero-add, arith, length-append}
use Rattle.std.proofs.lemmas.List.{append-nil, take-append-drop, append_assoc, take_at, drop_at, drop-drop, length-take-le}
use Rattle.fills.specs.declared.Writer.{Writer}
use Rattle.fills.specs.Fills.{put_at, HasRoom, Puts}

pub put_put : (at : ℕ) (a b out : List ℕ) → at + length (a ++ b) ≤ length out → put_at (at + length a) b (put_at at a out) ≡ put_at at (a ++ b) out
unfolding put_at
put_put at a b out h =
    let front : List ℕ = take at out ++ a in
    let back : List ℕ = drop (at + length a) out in
    let room : at ≤ length out = omega (arith, length-append a b) in
    let long : length front ≡ at + length a = length-append (take at out) a ∙ ap (λ (n : ℕ). n + length a) (length-take-le at out room) in
    let now : take at out ++ (a ++ back) ≡ front ++ back = sym (append_assoc (take at out) a back) in
    let kept : take (at + length a) (take at out ++ (a ++ back)) ≡ front = ap (λ (l : List ℕ). take (at + length a) l) now ∙ take_at front back (at + length a) long in
    let past : drop (at + length a + length b) (take at out ++ (a ++ back)) ≡ drop (at + length (a ++ b)) out =
    ap (λ (l : List ℕ). drop (at + length a + length b) l) now
    ∙ sym (drop-drop (length b) (at + length a) (front ++ back))
    ∙ ap (λ (l : List ℕ). drop (length b) l) (drop_at front back (at + length a) long)
    ∙ drop-drop (length b) (at + length a) out
    ∙ ap (λ (n : ℕ). drop n out) (add_assoc at (length a) (length b) ∙ ap (λ (n : ℕ). at + n) (sym (length-append a b))) in
    rw (kept, past, append_assoc, append_assoc)

pub put_none : (at : ℕ) (out : List ℕ) → put_at at [] out ≡ out
unfolding put_at
put_none at out = rw add-zero (take-append-drop at out)

pub put_first : (bs out : List ℕ) → put_at 0 bs out ≡ bs ++ drop (length bs) out
unfolding put_at
put_first bs out = ap (λ (n : ℕ). bs ++ drop n out) (zero-add (length bs))

-- where there is room for both, there is room for the second behind the first
pub room_behind : (a b : List ℕ) (w x : Writer) → HasRoom (a ++ b) w → Puts a w x → HasRoom b x
room_behind a b w x h p = omega (arith, length-append a b, p.at_is, p.as_long)

pub room_before : (a b : List ℕ) (w : Writer) → HasRoom (a ++ b) w → HasRoom a w
room_before a b w h = omega (arith, length-append a b)

pub puts_both : (a b : List ℕ) (w x y : Writer) → HasRoom (a ++ b) w → Puts a w x → Puts b x y → Puts (a ++ b) w y
puts_both a b w x y h p q = record {
  same = q.same ∙ p.same;
  as_long = q.as_long ∙ p.as_long;
  at_is = q.at_is ∙ ap (λ (n : ℕ). n + length b) p.at_is ∙ add_assoc w.at (length a) (length b) ∙ ap (λ (n : ℕ). w.at + n) (sym (length-append a b));
  out_is = q.out_is ∙ ap (λ (l : List ℕ). put_at x.at b l) p.out_is ∙ ap (λ (n : ℕ). put_at n b (put_at w.at a w.out.now)) p.at_is ∙ put_put w.at a b w.out.now h;
}

-- the same, of bytes that are two parts
pub puts_as : (bs a b : List ℕ) (w x y : Writer) → bs ≡ a ++ b → HasRoom bs w → Puts a w x → Puts b x y → Puts bs w y
puts_as bs a b w x y e h p q = subst (λ (l : List ℕ). Puts l w y) (sym e) (puts_both a b w x y (subst (λ (l : List ℕ). HasRoom l w) e h) p q)

pub puts_none : (w : Writer) → Puts [] w w
puts_none w = record { same = refl; as_long = refl; at_is = sym (add-zero w.at); out_is = sym (put_none w.at w.out.now) }

-- a line is three in a row, from the front
pub puts_line : (line a b c : List ℕ) (w x y z : Writer) → line ≡ a ++ (b ++ (c ++ [])) → w.at ≡ 0 → length line ≤ length w.out.now → Puts a w x → Puts b x y → Puts c y z → Puts line w z
puts_line line a b c w x y z e front room p q r =
    let same : line ≡ a ++ (b ++ c) = e ∙ ap (λ (l : List ℕ). a ++ (b ++ l)) (append-nil c) in
    let fits : HasRoom line w = omega arith in
    puts_as line a (b ++ c) w x z same fits p (puts_both b c x y z (room_behind a (b ++ c) w x (subst (λ (l : List ℕ). HasRoom l w) same fits) p) q r)
