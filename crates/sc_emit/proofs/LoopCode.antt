-- An instruction that leads back ends the code of a loop.
use Rattle.sc_emit.proofs.Common.{Instr, List, Some, TacStmt, [], and_first, and_rest, ap, append_assoc, arith, inl}
use Rattle.sc_emit.proofs.Common.{inr, leads_back, length, length-append, list_all, not, refl, slice_get, subst, suc}
use Rattle.sc_emit.proofs.Common.{sym, true, zero, ℕ, ⊎_elim, ◌++◌, ◌+◌, ◌∙◌, ◌∷◌, ◌≡◌, ◌⊎◌}
use Rattle.sc_emit.specs.Layout.{GoesAround, HasRounds, HaveCode, LeadOn, LeadsOver, branching, empty, leads_on}
use Rattle.sc_emit.specs.Layout.{loopless, repeating}
use Rattle.sc_emit.specs.Repeating.{IsLoopCode, StandsIn, first, in_body, in_first, in_head, in_next, in_second, later}
use Rattle.sc_tac.specs.declared.stmt.TacStmt.TheVariants as tac

-- an element of two lists is one of either
in_parts : {A : Type 0} (xs ys : List A) (i : ℕ) (x : A) → slice_get (xs ++ ys) i ≡ Some x →
    (slice_get xs i ≡ Some x) ⊎ ((j : ℕ) × ((i ≡ length xs + j) × (slice_get ys j ≡ Some x)))
in_parts [] ys i x h = inr (i, (omega arith, h))
in_parts (y ∷ xs) ys zero x h = inl h
in_parts (y ∷ xs) ys (suc i) x h =
    ⊎_elim (λ a. inl a) (λ b. inr (b.0, (omega (arith, b.1.0), b.1.1))) (in_parts xs ys i x h)

-- of instructions that lead on, none leads back
none_back : (instrs : List Instr) (i : ℕ) (x : Instr) → LeadOn instrs → slice_get instrs i ≡ Some x →
    leads_back x ≡ true → ⊥
none_back [] i x on h back = absurd (cc)
none_back (y ∷ ys) zero x on h back =
    let same : y ≡ x = cc h in
    let here : not (leads_back y) ≡ true = and_first (leads_on y) (list_all leads_on ys) on in
    let bad : not true ≡ true = subst (λ b. not b ≡ true) back (subst (λ z. not (leads_back z) ≡ true) same here) in
    cc bad
none_back (y ∷ ys) (suc i) x on h back =
    none_back ys i x (and_rest (leads_on y) (list_all leads_on ys) on) h back

one_back : (y : Instr) (x : Instr) → leads_on y ≡ true → y ≡ x → leads_back x ≡ true → ⊥
one_back y x on same back =
    let bad : not true ≡ true = subst (λ b. not b ≡ true) back (subst (λ z. not (leads_back z) ≡ true) same on) in
    cc bad

-- the instruction number i ends the code of a loop, and leads back to the first of that or the one after it
pub record EndsLoop (stmts : List TacStmt) (instrs : List Instr) (i : ℕ) (x : Instr) : Type 0 where
  pub begins : ℕ
  pub loop : IsLoopCode stmts instrs begins i
  pub over : ℕ
  pub back : LeadsOver over x
  pub to : (over + begins ≡ i) ⊎ (over + suc begins ≡ i)

-- with other code before it, and after it
between : (stmts all : List TacStmt) (xs ys : List Instr) (i j : ℕ) (x : Instr) →
    ((stmt : TacStmt) → StandsIn stmt stmts → StandsIn stmt all) → i ≡ length xs + j → EndsLoop stmts ys j x →
    EndsLoop all (xs ++ ys) i x
between stmts all xs ys i j x inside is e = record {
  begins = length xs + e.begins;
  loop = record {
    head = e.loop.head;
    body = e.loop.body;
    next = e.loop.next;
    stands = inside (tac.Loop e.loop.head e.loop.body e.loop.next) e.loop.stands;
    before = xs ++ e.loop.before;
    own = e.loop.own;
    following = e.loop.following;
    parts = ap (λ l. xs ++ l) e.loop.parts ∙
        sym (append_assoc xs e.loop.before (e.loop.own ++ e.loop.following));
    code = e.loop.code;
    from = length-append xs e.loop.before ∙ ap (λ n. length xs + n) e.loop.from;
    to = omega (arith, e.loop.to, is);
  };
  over = e.over;
  back = e.back;
  to = ⊎_elim (λ h. inl (omega (arith, h, is))) (λ h. inr (omega (arith, h, is))) e.to;
}

before : (stmts all : List TacStmt) (xs ys : List Instr) (i : ℕ) (x : Instr) →
    ((stmt : TacStmt) → StandsIn stmt stmts → StandsIn stmt all) → EndsLoop stmts xs i x → EndsLoop all (xs ++ ys) i x
before stmts all xs ys i x inside e = record {
  begins = e.begins;
  loop = record {
    head = e.loop.head;
    body = e.loop.body;
    next = e.loop.next;
    stands = inside (tac.Loop e.loop.head e.loop.body e.loop.next) e.loop.stands;
    before = e.loop.before;
    own = e.loop.own;
    following = e.loop.following ++ ys;
    parts = ap (λ l. l ++ ys) e.loop.parts ∙ append_assoc e.loop.before (e.loop.own ++ e.loop.following) ys ∙
        ap (λ l. e.loop.before ++ l) (append_assoc e.loop.own e.loop.following ys);
    code = e.loop.code;
    from = e.loop.from;
    to = e.loop.to;
  };
  over = e.over;
  back = e.back;
  to = e.to;
}

-- an instruction of two parts, where what it does is known in each
in_either : (all : List TacStmt) (xs ys : List Instr) (i : ℕ) (x : Instr) → slice_get (xs ++ ys) i ≡ Some x →
    (slice_get xs i ≡ Some x → EndsLoop all xs i x) →
    ((j : ℕ) → slice_get ys j ≡ Some x → EndsLoop all ys j x) → EndsLoop all (xs ++ ys) i x
in_either all xs ys i x at one two =
    ⊎_elim (λ h. before all all xs ys i x (λ stmt s. s) (one h))
    (λ h. between all all xs ys i h.0 x (λ stmt s. s) h.1.0 (two h.0 h.1.1)) (in_parts xs ys i x at)

moved : (stmts all : List TacStmt) (instrs : List Instr) (i : ℕ) (x : Instr) →
    ((stmt : TacStmt) → StandsIn stmt stmts → StandsIn stmt all) → EndsLoop stmts instrs i x → EndsLoop all instrs i x
moved stmts all instrs i x inside e = between stmts all [] instrs i i x inside (omega arith) e

-- the loop itself
itself : (head body next rest : List TacStmt) (at_head at_body at_next inside more : List Instr) (begin last : Instr)
    (i : ℕ) →
    GoesAround at_head at_body at_next inside begin last → HaveCode head at_head → HaveCode body at_body →
    HaveCode next at_next → i ≡ suc (length inside) →
    EndsLoop (tac.Loop head body next ∷ rest) (begin ∷ (inside ++ (last ∷ more))) i last
itself head body next rest at_head at_body at_next inside more begin last i goes h b n is = record {
  begins = 0;
  loop = record {
    head = head;
    body = body;
    next = next;
    stands = first rest;
    before = [];
    own = begin ∷ (inside ++ (last ∷ []));
    following = more;
    parts = ap (λ l. begin ∷ l) (sym (append_assoc inside (last ∷ []) more));
    code = repeating inside begin last goes h b n empty;
    from = refl;
    to = omega (arith, is, length-append inside (last ∷ []));
  };
  over = ⊎_elim (λ far. suc (length inside)) (λ near. length inside) goes.back;
  back = by goes.back;
  to = where_to goes.back;
}
  where
    by : (back : LeadsOver (suc (length inside)) last ⊎ LeadsOver (length inside) last) →
        LeadsOver (⊎_elim (λ far. suc (length inside)) (λ near. length inside) back) last
    by (inl far) = far
    by (inr near) = near

    where_to : (back : LeadsOver (suc (length inside)) last ⊎ LeadsOver (length inside) last) →
        (⊎_elim (λ far. suc (length inside)) (λ near. length inside) back + 0 ≡ i)
        ⊎ (⊎_elim (λ far. suc (length inside)) (λ near. length inside) back + suc 0 ≡ i)
    where_to (inl far) = inl (omega (arith, is))
    where_to (inr near) = inr (omega (arith, is))

-- in a loop, where what its parts do is known
module _ (head body next rest : List TacStmt) (at_head at_body at_next inside more : List Instr) (begin last : Instr)
    (goes : GoesAround at_head at_body at_next inside begin last) (h : HaveCode head at_head)
    (b : HaveCode body at_body) (n : HaveCode next at_next) (x : Instr) (back : leads_back x ≡ true)
    (headed : (j : ℕ) → slice_get at_head j ≡ Some x → EndsLoop head at_head j x)
    (bodied : (j : ℕ) → slice_get at_body j ≡ Some x → EndsLoop body at_body j x)
    (nexted : (j : ℕ) → slice_get at_next j ≡ Some x → EndsLoop next at_next j x)
    (rested : (j : ℕ) → slice_get more j ≡ Some x → EndsLoop rest more j x) where
  abbrev all : List TacStmt
  all = tac.Loop head body next ∷ rest

  in_the_head : (j : ℕ) → slice_get at_head j ≡ Some x → EndsLoop all at_head j x
  in_the_head j l = moved head all at_head j x (λ s it. in_head head body next rest it) (headed j l)

  in_the_body : (j : ℕ) → slice_get at_body j ≡ Some x → EndsLoop all at_body j x
  in_the_body j l = moved body all at_body j x (λ s it. in_body head body next rest it) (bodied j l)

  in_the_next : (j : ℕ) → slice_get at_next j ≡ Some x → EndsLoop all at_next j x
  in_the_next j l = moved next all at_next j x (λ s it. in_next head body next rest it) (nexted j l)

  inner : (j : ℕ) → slice_get inside j ≡ Some x → EndsLoop all inside j x
  inner j k =
      ⊎_elim (λ is. subst (λ l. EndsLoop all l j x) (sym is)
      (in_either all at_head (at_body ++ at_next) j x (subst (λ l. slice_get l j ≡ Some x) is k) (in_the_head j)
      (λ j l. in_either all at_body at_next j x l (in_the_body j) in_the_next)))
      (λ is. subst (λ l. EndsLoop all l j x) (sym is)
      (in_either all at_body (at_next ++ at_head) j x (subst (λ l. slice_get l j ≡ Some x) is k) (in_the_body j)
      (λ j l. in_either all at_next at_head j x l (in_the_next j) in_the_head))) goes.order

  at_end : (i j : ℕ) → i ≡ suc (length inside + j) → slice_get (last ∷ more) j ≡ Some x →
      EndsLoop all (begin ∷ (inside ++ (last ∷ more))) i x
  at_end i zero is k =
      let same : last ≡ x = cc k in
      subst (EndsLoop all (begin ∷ (inside ++ (last ∷ more))) i) same
      (itself head body next rest at_head at_body at_next inside more begin last i goes h b n (omega (arith, is)))
  at_end i (suc j) is k =
      between all all (begin ∷ []) (inside ++ (last ∷ more)) i (length inside + suc j) x (λ s it. it)
      (omega (arith, is))
      (between all all inside (last ∷ more) (length inside + suc j) (suc j) x (λ s it. it) refl
      (between rest all (last ∷ []) more (suc j) j x (λ s it. later (tac.Loop head body next) rest it)
      (omega arith) (rested j k)))

  loop_ends : (i : ℕ) → slice_get (begin ∷ (inside ++ (last ∷ more))) i ≡ Some x →
      EndsLoop all (begin ∷ (inside ++ (last ∷ more))) i x
  loop_ends zero k = absurd (one_back begin x goes.on (cc k) back)
  loop_ends (suc i) k =
      ⊎_elim (λ l. between all all (begin ∷ []) (inside ++ (last ∷ more)) (suc i) i x (λ s it. it) (omega arith)
      (before all all inside (last ∷ more) i x (λ s it. it) (inner i l)))
      (λ l. at_end (suc i) l.0 (omega (arith, l.1.0)) l.1.1) (in_parts inside (last ∷ more) i x k)

pub ends_loop : {stmts : List TacStmt} {instrs : List Instr} → HaveCode stmts instrs → (i : ℕ) (x : Instr) →
    slice_get instrs i ≡ Some x → leads_back x ≡ true → EndsLoop stmts instrs i x
ends_loop empty i x at back = absurd (cc)
ends_loop (loopless {rest = rest} {more = more} stmt own none on h) i x at back =
    in_either (stmt ∷ rest) own more i x at (λ k. absurd (none_back own i x on k back))
    (λ j k. moved rest (stmt ∷ rest) more j x (λ s it. later stmt rest it) (ends_loop h j x k back))
ends_loop (branching {first = one_stmts} {second = two_stmts} {rest = rest} {one = one} {two = two} {more = more} cond
    test over test_on over_on h k g) i x at back =
    let all : List TacStmt = tac.If cond one_stmts two_stmts ∷ rest in
    in_either all test (one ++ (over ++ (two ++ more))) i x at (λ l. absurd (none_back test i x test_on l back))
    (λ j l. in_either all one (over ++ (two ++ more)) j x l
    (λ l. moved one_stmts all one j x (λ s it. in_first cond one_stmts two_stmts rest it) (ends_loop h j x l back))
    (λ j l. in_either all over (two ++ more) j x l (λ l. absurd (none_back over j x over_on l back))
    (λ j l. in_either all two more j x l
    (λ l. moved two_stmts all two j x (λ s it. in_second cond one_stmts two_stmts rest it) (ends_loop k j x l back))
    (λ j l. moved rest all more j x (λ s it. later (tac.If cond one_stmts two_stmts) rest it)
    (ends_loop g j x l back)))))
ends_loop (repeating {head = head} {body = body} {next = next} {rest = rest} {at_head = at_head} {at_body = at_body}
    {at_next = at_next} {more = more} inside begin last goes h b n g) i x at back =
    loop_ends head body next rest at_head at_body at_next inside more begin last goes h b n x back
    (λ j l. ends_loop h j x l back) (λ j l. ends_loop b j x l back) (λ j l. ends_loop n j x l back)
    (λ j l. ends_loop g j x l back) i at

-- so in the code of a function
pub ends_round : (stmts : List TacStmt) (instrs : List Instr) → HasRounds stmts instrs → (i : ℕ) (x : Instr) →
    slice_get instrs i ≡ Some x → leads_back x ≡ true → EndsLoop stmts instrs i x
ends_round stmts instrs has i x at back =
    subst (λ l. EndsLoop stmts l i x) (sym has.parts)
    (in_either stmts has.before (has.inside ++ has.following) i x
    (subst (λ l. slice_get l i ≡ Some x) has.parts at) (λ l. absurd (none_back has.before i x has.in_on l back))
    (λ j l. in_either stmts has.inside has.following j x l (λ l. ends_loop has.statements j x l back)
    (λ j l. absurd (none_back has.following j x has.out_on l back))))
