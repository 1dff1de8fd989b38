-- What a section with its lexemes is parsed to.
use Rattle.sc_base.specs.Prelude.{most_brackets}
use Rattle.sc_parse.proofs.Common.{Any, Err, IfOk, IsErrOf, IsExcess, IsParsed, Lexeme, List, None, Ok, Option, Parses}
use Rattle.sc_parse.proofs.Common.{Result, SectionTree, Some, Token, [], ap, arith, cond, cond_is, le-leb, leb}
use Rattle.sc_parse.proofs.Common.{leb-true, length, length-map, lexeme_of, lexemes_of, line_after, lt-leb, map}
use Rattle.sc_parse.proofs.Common.{most_open, none-some, open_after, option_map, refl, same_some, section_at, subst}
use Rattle.sc_parse.proofs.Common.{suc, sym, take, tree_of, whole_line, zero, ℕ, ◌+◌, ◌-◌, ◌<◌, ◌∙◌, ◌∷◌, ◌≡◌, ◌≤◌}
use Rattle.sc_parse.proofs.Exact.{chosen}
use Rattle.sc_lex.specs.declared.refusal.Refusal.{Refusal}
use Rattle.sc_lex.specs.declared.fault.TextFault.{TextFault}
use Rattle.sc_lex.specs.declared.fault.TextFault.TheVariants as fault
use Rattle.sc_parse.proofs.Sections.{section_sound, section_complete}

fewer : (n k : ℕ) (ts : List Lexeme) → most_open n (take k ts) ≤ most_open n ts
fewer n zero [] = omega arith
fewer n (suc k) [] = omega arith
fewer n zero (t ∷ ts) = omega arith
fewer n (suc k) (t ∷ ts) = omega (arith, fewer (open_after t.symbol n) k ts)

pub too_many : (line : ℕ) (ts : List Lexeme) (at : ℕ) → IsExcess ts at → tree_of line ts ≡ None
unfolding tree_of
too_many line ts at e = ap (λ b. cond b (option_map (λ x. x.0) (section_at line ts)) None)
    (lt-leb (most_open 0 ts) most_brackets (omega (arith, fewer 0 (at + 1) ts, e.many)))

pub unread : (line : ℕ) (ts : List Lexeme) → section_at line ts ≡ None → tree_of line ts ≡ None
unfolding tree_of
unread line ts h = chosen _ _ _ refl (λ q e. sym e ∙ ap (λ o. option_map (λ x. x.0) o) h) (λ q e. sym e)

pub tree_found : (line : ℕ) (ts rest : List Lexeme) (x : SectionTree) → section_at line ts ≡ Some (x, rest) →
    most_open 0 ts ≤ most_brackets → tree_of line ts ≡ Some x
unfolding tree_of
tree_found line ts rest x h few =
    ap (λ b. cond b (option_map (λ x. x.0) (section_at line ts)) None)
    (le-leb _ most_brackets few) ∙ ap (λ o. option_map (λ x. x.0) o) h

pub ruleset trees = (too_many, unread, tree_found)

pub parsed : (line : ℕ) (ts : List Lexeme) (result : Result SectionTree TextFault) → Parses line ts result →
    IfOk result (λ tree. IsParsed line ts tree)
unfolding tree_of
parsed line ts (Err e) h = tt
parsed line ts (Ok tree) h =
    let c = cond_is (leb (most_open 0 ts) most_brackets) (option_map _ _) tree h in
    go (section_at line ts) refl c.1
  where
    go : (o : Option (SectionTree × List Lexeme)) → section_at line ts ≡ o → option_map (λ x. x.0) o ≡ Some tree →
        IsParsed line ts tree
    go None q e = absurd (none-some tree e)
    go (Some x) q e =
        let s = (section_sound line ts x.1 tree (q ∙ ap (λ t. Some (t, x.1)) (same_some e))).0 in
        let c = cond_is (leb _ most_brackets) (option_map (λ x. x.0) _) tree h in
        record { spelled = s.0; low = s.1; few = leb-true (most_open 0 ts) most_brackets c.0 }

-- the fault is a refusal
abbrev IsRefusal : Result SectionTree TextFault → Type 0
IsRefusal (Err (fault.Refused refusal)) = Unit {0}
IsRefusal _ = ⊥

pub unparsed : (line : ℕ) (ts : List Lexeme) (result : Result SectionTree TextFault) → Parses line ts result →
    (refusal : Refusal) → IsErrOf result (fault.Refused refusal) → (tree : SectionTree) → IsParsed line ts tree → ⊥
unparsed line ts (Ok x) h refusal e tree p = subst IsRefusal (sym e) tt
unparsed line ts (Err fault.OutOfMemory) h refusal e tree p = subst IsRefusal (sym e) tt
unparsed line ts (Err (fault.Refused other)) h refusal e tree p =
    none-some tree (sym h ∙ tree_found line ts [] tree (section_complete p.spelled p.low p.few) p.few)

any_mapped : {A B : Type 0} (f : A → B) (P : B → Type 0) (xs : List A) → Any P (map f xs) → Any (λ x. P (f x)) xs
any_mapped f P [] (k, x, h, is, p) = absurd (omega (arith, h))
any_mapped f P (y ∷ ys) (zero, x, h, is, p) = (0, y, omega arith, refl, subst P (sym is) p)
any_mapped f P (y ∷ ys) (suc k, x, h, is, p) = let r = any_mapped f P ys (k, x, omega (arith, h), is, p) in
    (suc r.0, r.1, omega (arith, r.2), r.3, r.4)

-- a line of a lexeme is that of a token
pub line_token : (line : ℕ) (bytes : List ℕ) (tokens : List Token) (at : ℕ) →
    (0 < length (lexemes_of bytes tokens) → Any (λ t. at ≡ whole_line line t) (lexemes_of bytes tokens)) →
    0 < length tokens → Any (λ token. at ≡ line_after line (token.line - 1)) tokens
line_token line bytes tokens at h some = any_mapped (lexeme_of bytes) (λ t. at ≡ whole_line line t) tokens
    (h (omega (arith, some, length-map tokens (lexeme_of bytes))))
