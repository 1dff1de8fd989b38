-- Lines that are kept as instructions and targets, the last ones first.
use Rattle.sc_emit_select.proofs.Common.{Instr, Line, List, Option, Target, [], ap, append_assoc, ap₂, arith, length}
use Rattle.sc_emit_select.proofs.Common.{length-append, length-reverse, lines_of, pred, refl, reverse, reverse-append}
use Rattle.sc_emit_select.proofs.Common.{reverse-reverse, slice_set, suc, sym, ℕ, ◌++◌, ◌∙◌, ◌∷◌, ◌≡◌}

lines_append : (is js : List Instr) (ts us : List (Option Target)) → length is ≡ length ts →
    lines_of (is ++ js) (ts ++ us) ≡ lines_of is ts ++ lines_of js us
lines_append [] js [] us h = refl
lines_append [] js (t ∷ ts) us h = absurd (cc)
lines_append (i ∷ is) js [] us h = absurd (cc)
lines_append (i ∷ is) js (t ∷ ts) us h = ap (λ rest. record { instr = i; target = t } ∷ rest)
    (lines_append is js ts us (ap pred h))

lines_length : (is : List Instr) (ts : List (Option Target)) → length is ≡ length ts →
    length (lines_of is ts) ≡ length is
lines_length [] ts h = refl
lines_length (i ∷ is) [] h = absurd (cc)
lines_length (i ∷ is) (t ∷ ts) h = ap suc (lines_length is ts (ap pred h))

-- how many lines there are
pub reversed_length : (is : List Instr) (ts : List (Option Target)) → length is ≡ length ts →
    length is ≡ length (reverse (lines_of is ts))
reversed_length is ts h = sym (length-reverse (lines_of is ts) ∙ lines_length is ts h)

-- one more
pub pushed : (is : List Instr) (ts : List (Option Target)) (i : Instr) (t : Option Target) → length is ≡ length ts →
    reverse (lines_of (is ++ i ∷ []) (ts ++ t ∷ [])) ≡ record { instr = i; target = t } ∷ reverse (lines_of is ts)
pushed is ts i t h =
    ap reverse (lines_append is (i ∷ []) ts (t ∷ []) h) ∙
    reverse-append (lines_of is ts) (record { instr = i; target = t } ∷ [])

seam : {A : Type 0} (xs : List A) (y : A) (ys : List A) → reverse (xs ++ y ∷ ys) ≡ reverse ys ++ y ∷ reverse xs
seam xs y ys =
    reverse-append xs (y ∷ ys) ∙ ap (λ zs. zs ++ reverse xs) (reverse-append (y ∷ []) ys) ∙
    append_assoc (reverse ys) (y ∷ []) (reverse xs)

set_lines : (is : List Instr) (ts : List (Option Target)) (R F : List Line) (line : Line) (x : Instr) →
    lines_of is ts ≡ R ++ line ∷ F →
    lines_of (slice_set is (length R) x) ts ≡ R ++ record line { instr = x } ∷ F
set_lines [] ts [] F line x h = absurd (cc)
set_lines [] ts (r ∷ R) F line x h = absurd (cc)
set_lines (i ∷ is) [] [] F line x h = absurd (cc)
set_lines (i ∷ is) [] (r ∷ R) F line x h = absurd (cc)
set_lines (i ∷ is) (t ∷ ts) [] F line x h =
    ap₂ {A = Line} {B = List Line} (λ l ls. record l { instr = x } ∷ ls) head tail
  where
    head : ◌≡◌ {A = Line} (record { instr = i; target = t }) line
    head = cc

    tail : lines_of is ts ≡ F
    tail = cc
set_lines (i ∷ is) (t ∷ ts) (r ∷ R) F line x h =
    ap₂ {A = Line} {B = List Line} (λ l ls. l ∷ ls) head (set_lines is ts R F line x tail)
  where
    head : ◌≡◌ {A = Line} (record { instr = i; target = t }) r
    head = cc

    tail : lines_of is ts ≡ R ++ line ∷ F
    tail = cc

-- one line instead of another
pub replaced : (is : List Instr) (ts : List (Option Target)) (prefix rest : List Line) (line : Line)
    (x : Instr) (b : ℕ) →
    reverse (lines_of is ts) ≡ prefix ++ line ∷ rest → length rest ≡ b →
    reverse (lines_of (slice_set is b x) ts) ≡ prefix ++ record line { instr = x } ∷ rest
replaced is ts prefix rest line x b h k =
    ap (λ n. reverse (lines_of (slice_set is n x) ts)) (sym (length-reverse rest ∙ k)) ∙
    ap reverse (set_lines is ts (reverse rest) (reverse prefix) line x
    (sym (reverse-reverse (lines_of is ts)) ∙ ap reverse h ∙ seam prefix line rest)) ∙
    seam (reverse rest) (record line { instr = x }) (reverse prefix) ∙
    ap₂ {A = List Line} {B = List Line} (λ f r. f ++ record line { instr = x } ∷ r) (reverse-reverse prefix)
    (reverse-reverse rest)

left : (is js : List Instr) (ts us : List (Option Target)) (i : Instr) (t : Option Target) → length is ≡ length ts →
    is ≡ js ++ i ∷ [] → ts ≡ us ++ t ∷ [] → length js ≡ length us
left is js ts us i t h hi ht =
    let whole : length is ≡ length (js ++ i ∷ []) = ap length hi in
    let other : length ts ≡ length (us ++ t ∷ []) = ap length ht in
    omega (arith, h, whole, other, length-append js (i ∷ []), length-append us (t ∷ []))

-- the first line is the last of what is kept
pub first_taken : (is js : List Instr) (ts us : List (Option Target)) (i : Instr) (t : Option Target) →
    length is ≡ length ts → is ≡ js ++ i ∷ [] → ts ≡ us ++ t ∷ [] →
    reverse (lines_of is ts) ≡ record { instr = i; target = t } ∷ reverse (lines_of js us)
first_taken is js ts us i t h hi ht =
    ap₂ (λ x y. reverse (lines_of x y)) hi ht ∙ pushed js us i t (left is js ts us i t h hi ht)

pub none_left : (is : List Instr) (ts : List (Option Target)) → is ≡ [] → reverse (lines_of is ts) ≡ []
none_left is ts h = ap (λ x. reverse (lines_of x ts)) h
