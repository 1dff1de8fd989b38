-- What was read and written so far, in pieces.
use Rattle.sc_top.proofs.Common.{Adds, Err, Fetches, IsAtEnd, List, None, Ok, OnOk, Option, Prints, Result, Rose, Some}
use Rattle.sc_top.proofs.Common.{Takes, Wrote, [], ap, append-nil, append_assoc, arith, drop, inl, inr, length}
use Rattle.sc_top.proofs.Common.{length-append, length-drop, refl, subst, sym, take, take-append-drop, take_all}
use Rattle.sc_top.proofs.Common.{take_rest, ℕ, ⊎_elim, ◌++◌, ◌+◌, ◌-◌, ◌∙◌, ◌≡◌, ◌≤◌}
use Rattle.std.proofs.Math.Seq.{take-add}

-- a count that rose later has risen
pub rose_since : (before then_ after : ℕ) → before ≤ then_ → Rose then_ after → Rose before after
rose_since before then_ after h rose = ⊎_elim (λ higher. inl (omega arith)) (λ at_end. inr at_end) rose

pub Takes-none : (left : Option (List ℕ)) → Takes left left []
Takes-none None = tt
Takes-none (Some left) = refl

pub Takes-more : (a b c : Option (List ℕ)) (x y : List ℕ) → Takes a b x → Takes b c y → Takes a c (x ++ y)
Takes-more None b c x y p q = tt
Takes-more (Some a) (Some b) (Some c) x y p q = p ∙ ap (λ t. x ++ t) q ∙ sym (append_assoc x y c)
Takes-more (Some a) (Some b) None x y p q = q
Takes-more (Some a) None c x y p q = absurd p

pub Adds-none : (written : Option (List ℕ)) → Adds written written []
Adds-none None = tt
Adds-none (Some written) = sym (append-nil written)

pub Adds-more : (a b c : Option (List ℕ)) (x y : List ℕ) → Adds a b x → Adds b c y → Adds a c (x ++ y)
Adds-more None b c x y p q = tt
Adds-more (Some a) (Some b) (Some c) x y p q = q ∙ ap (λ t. t ++ y) p ∙ append_assoc a x y
Adds-more (Some a) (Some b) None x y p q = q
Adds-more (Some a) None c x y p q = absurd p

-- these bytes were read, at most `most`
pub record HasTaken (most : ℕ) (left left' : Option (List ℕ)) (faults faults' : ℕ) (text : List ℕ) : Type 0 where
  pub taken : Takes left left' text
  pub within : length text ≤ most
  pub counted : faults ≤ faults'

pub nothing_taken : (most : ℕ) (left : Option (List ℕ)) (faults : ℕ) → HasTaken most left left faults faults []
nothing_taken most left faults = record { taken = Takes-none left; within = omega arith; counted = omega arith }

pub more_taken : (most : ℕ) (a b c : Option (List ℕ)) (f g h : ℕ) (text more : List ℕ) → HasTaken most a b f g text →
    Takes b c more → length text + length more ≤ most → g ≤ h → HasTaken most a c f h (text ++ more)
more_taken most a b c f g h text more so_far taken within counted =
    let before = so_far.counted in
    record {
      taken = Takes-more a b c text more so_far.taken taken;
      within = rw length-append within;
      counted = omega arith;
    }

-- at the end of the input all was read
pub all_taken : (limit : ℕ) (a b c : Option (List ℕ)) (f g : ℕ) (text : List ℕ) → HasTaken (limit + 1) a b f g text →
    Takes b c [] → IsAtEnd c → Fetches limit a c text
all_taken limit a b c f g text so_far taken ended =
    record {
      taken = subst (Takes a c) (append-nil text) (Takes-more a b c text [] so_far.taken taken);
      few = so_far.within;
      ended = λ _. ended;
    }

-- past the limit nothing is said of the rest
pub enough_taken : (limit : ℕ) (a b : Option (List ℕ)) (f g : ℕ) (text : List ℕ) → HasTaken (limit + 1) a b f g text →
    limit + 1 ≤ length text → Fetches limit a b text
enough_taken limit a b f g text so_far long =
    record { taken = so_far.taken; few = so_far.within; ended = λ short. absurd (omega arith) }

-- the first `count` of the bytes were written
pub record HasAdded (bytes : List ℕ) (written written' : Option (List ℕ)) (faults faults' count : ℕ) : Type 0 where
  pub within : count ≤ length bytes
  pub added : Adds written written' (take count bytes)
  pub counted : faults ≤ faults'

pub nothing_added : (bytes : List ℕ) (written : Option (List ℕ)) (faults : ℕ) →
    HasAdded bytes written written faults faults 0
nothing_added bytes written faults = record { within = omega arith; added = Adds-none written; counted = omega arith }

pub more_added : (bytes : List ℕ) (a b c : Option (List ℕ)) (f g h count more : ℕ) → HasAdded bytes a b f g count →
    Adds b c (take more (take (length bytes - count) (drop count bytes))) →
    more ≤ length (take (length bytes - count) (drop count bytes)) → g ≤ h → HasAdded bytes a c f h (count + more)
more_added bytes a b c f g h count more so_far added within counted =
    let before = so_far.counted in
    let room = so_far.within in
    let rest = take_rest bytes count in
    let fits : more ≤ length (drop count bytes) = subst (λ piece. more ≤ length piece) rest within in
    let piece : Adds b c (take more _) = subst (λ piece. Adds b c (take more piece)) rest added in
    record {
      within = omega (arith, length-drop count bytes);
      added = subst (Adds a c) (sym (take-add count more bytes)) (Adds-more a b c _ _ so_far.added piece);
      counted = omega arith;
    }

pub all_added : (bytes : List ℕ) (a b : Option (List ℕ)) (f g count : ℕ) → HasAdded bytes a b f g count →
    length bytes ≤ count → Adds a b bytes
all_added bytes a b f g count so_far whole = subst (Adds a b) (take_all count bytes whole) so_far.added

-- where a write fails, what came before it is a prefix of the bytes
pub cut_short : (bytes : List ℕ) (a b c : Option (List ℕ)) (f g h count : ℕ) → HasAdded bytes a b f g count → c ≡ b →
    Rose g h → Prints bytes a c f h
cut_short bytes a b c f g h count so_far same rose =
    record {
      prefix = take count bytes;
      begins = record { more = drop count bytes; is = sym (take-append-drop count bytes) };
      part = subst (λ w. Adds a w (take count bytes)) (sym same) so_far.added;
      whole = inr (rose_since f g h so_far.counted rose);
    }

-- what was written of a text that was cut short is a prefix of any longer one
first_cut : (a b : List ℕ) (w w' : Option (List ℕ)) (f f' : ℕ) → Prints a w w' f f' → Rose f f' →
    Prints (a ++ b) w w' f f'
first_cut a b w w' f f' t rose =
    record {
      prefix = t.prefix;
      begins = record {
        more = t.begins.more ++ b;
        is = ap (λ x. x ++ b) t.begins.is ∙ append_assoc t.prefix _ b;
      };
      part = t.part;
      whole = inr rose;
    }

-- a text that was written whole, and then another, whole or cut short
then_printed : (a b : List ℕ) (w u w' : Option (List ℕ)) (f g f' : ℕ) → Adds w u a → f ≤ g → Prints b u w' g f' →
    Prints (a ++ b) w w' f f'
then_printed a b w u w' f g f' added low t =
    record {
      prefix = a ++ t.prefix;
      begins = record {
        more = t.begins.more;
        is = ap (λ x. a ++ x) t.begins.is ∙ sym (append_assoc a t.prefix _);
      };
      part = Adds-more w u w' a t.prefix added t.part;
      whole = ⊎_elim (λ same. inl (ap (λ x. a ++ x) same)) (λ rose. inr (rose_since f g f' low rose)) t.whole;
    }

-- a text with a prefix that was cut short, so that the call fails
pub cut_wrote : {T E : Type 0} (text a b : List ℕ) (r : Result T E) (w w' : Option (List ℕ)) (f f' : ℕ) →
    text ≡ a ++ b → OnOk r ⊥ → Prints a w w' f f' → Rose f f' → f ≤ f' → Wrote text r w w' f f'
cut_wrote text a b (Ok value) w w' f f' joined fails printed rose low = absurd fails
cut_wrote text a b (Err error) w w' f f' joined fails printed rose low =
    record {
      ok = tt;
      err = subst (λ t. Prints t w w' f f') (sym joined) (first_cut a b w w' f f' printed rose);
      fault = rose;
      counted = low;
    }

-- a text with a prefix that was written whole, and the rest by this call
pub then_wrote : {T E : Type 0} (text a b : List ℕ) (r : Result T E) (w u w' : Option (List ℕ)) (f g f' : ℕ) →
    text ≡ a ++ b → Adds w u a → f ≤ g → Wrote b r u w' g f' → Wrote text r w w' f f'
then_wrote text a b (Ok value) w u w' f g f' joined added low wrote =
    let counted = wrote.counted in
    record {
      ok = subst (Adds w w') (sym joined) (Adds-more w u w' a b added wrote.ok);
      err = tt;
      fault = tt;
      counted = omega (arith, counted, low);
    }
then_wrote text a b (Err error) w u w' f g f' joined added low wrote =
    let counted = wrote.counted in
    record {
      ok = tt;
      err = subst (λ t. Prints t w w' f f') (sym joined) (then_printed a b w u w' f g f' added low wrote.err);
      fault = rose_since f g f' low wrote.fault;
      counted = omega (arith, counted, low);
    }

-- a call that failed to write all the bytes
pub part_wrote : {T E : Type 0} (bytes : List ℕ) (r : Result T E) (a b c : Option (List ℕ)) (f g h count : ℕ) →
    OnOk r ⊥ → HasAdded bytes a b f g count → c ≡ b → Rose g h → g ≤ h → Wrote bytes r a c f h
part_wrote bytes (Ok value) a b c f g h count fails so_far same rose low = absurd fails
part_wrote bytes (Err error) a b c f g h count fails so_far same rose low =
    let counted = so_far.counted in
    record {
      ok = tt;
      err = cut_short bytes a b c f g h count so_far same rose;
      fault = rose_since f g h counted rose;
      counted = omega (arith, counted, low);
    }

-- a text was written, whole or cut short, whether or not the call failed
pub printed_by : {T E : Type 0} (text : List ℕ) (r : Result T E) (w w' : Option (List ℕ)) (f f' : ℕ) →
    Wrote text r w w' f f' → Prints text w w' f f'
printed_by text (Ok value) w w' f f' wrote =
    record {
      prefix = text;
      begins = record { more = []; is = sym (append-nil text) };
      part = wrote.ok;
      whole = inl refl;
    }
printed_by text (Err error) w w' f f' wrote = wrote.err

pub ruleset reading = (nothing_taken, more_taken, all_taken, enough_taken, rose_since)

pub ruleset writing = (nothing_added, more_added, all_added, cut_short, rose_since)
