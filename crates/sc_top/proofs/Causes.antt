-- Why a command has no output: bytes have one cause at most, and none where they are good input.
use Rattle.sc_top.proofs.Common.{Accepts, Command, Fails, IsBadAt, IsGoodText, IsImage, IsPolicyRead, IsUnfit, List}
use Rattle.sc_top.proofs.Common.{LacksSection, None, Option, PolicyRead, ProgramTree, SameAnswer, Some, Status, ap}
use Rattle.sc_top.proofs.Common.{bad_join_in, cause_in, cause_number, comp_named, drop, lines_of, min, none-some}
use Rattle.sc_top.proofs.Common.{option_and_then, option_map, read_cause, refl, subst, sym, too_large, ℕ, ◌∙◌}
use Rattle.sc_top.proofs.Common.{◌≡◌, CanBeLinked, HasBadJoin, HasBadObject, HasSection, HoldsAfterPolicy, HoldsOfText}
use Rattle.sc_top.proofs.Common.{IsSome, ap₂, false≢true, BeginWithImage, HoldsAfterImage, HoldsOfBoth, IsButFor}
use Rattle.sc_top.proofs.Common.{IsGoodWith, IsOfAnother, ImageParts, Ok, arith, built_image, image_of, length}
use Rattle.sc_top.proofs.Common.{part_cause_in, ◌+◌, ◌≤◌}
use Rattle.sc_image.proofs.Whole.{is_read_again}
use Rattle.sc_lex.specs.declared.refusal.Phase.{Phase}
use Rattle.sc_lex.specs.declared.refusal.Phase.TheVariants.{Syntax}
use Rattle.sc_object.specs.Prelude.{AreBytesOf, BytesNameOneList, OneFirstBad, join_fault}
use Rattle.sc_object.specs.Prelude.{cause_number as object_cause}
use Rattle.sc_object.specs.declared.parts.ObjectParts.{ObjectParts}
use Rattle.sc_policy.specs.Prelude.{HasBadLine}
use Rattle.sc_top.specs.Answer.{DiffersIn, HasBadJoinIn, HasBadLineIn, HasBadObjectIn, HasLongTextIn, IsBadIn, IsGoodIn}
use Rattle.sc_top.proofs.Parts.{front_good, one_front, one_rest}
use Rattle.sc_top.proofs.Large.{fits_of}
use Rattle.sc_top.specs.Command.{AfterPolicy, Image, ImageAndText, Intake, Nothing, Objects, Text}
use Rattle.sc_top.specs.Large.{large_in}
use Rattle.sc_top.specs.declared.status.BadJoin as join
use Rattle.sc_top.specs.declared.status.Status.TheVariants as status
use Rattle.sc_top.specs.declared.status.TooLarge.{TooLarge}

-- why a command with this intake has no output for the bytes, by the status that says so
abbrev pub Cause : Intake → Command → List ℕ → Status → Type 0
Cause i c bytes (status.Refused r) = HoldsOfText i bytes (λ text. Fails text r.phase r.line)
Cause i c bytes (status.TooLarge fault) = HoldsOfText i bytes (λ text. IsUnfit c text fault)
Cause i c bytes (status.BadImage cause) = IsBadIn i bytes cause
Cause i c bytes (status.BadObject index cause) = HasBadObjectIn i bytes index cause
Cause i c bytes (status.BadJoin fault) = HasBadJoinIn i bytes fault
Cause i c bytes (status.NoSection name) = HoldsOfText i bytes (λ text. LacksSection c text name)
Cause i c bytes (status.BadPolicy line) = HasBadLineIn i bytes line
Cause i c bytes (status.TooLong limit) = HasLongTextIn i bytes limit
Cause i c bytes status.Differs = DiffersIn i c bytes
Cause i c bytes _ = ⊥

none_is_some : {A : Type 0} (option : Option A) → option ≡ None → IsSome option → ⊥
none_is_some option none some = false≢true (subst IsSome none some)

pub same_some : {A : Type 0} (option : Option A) (x y : A) → option ≡ Some x → option ≡ Some y → x ≡ y
same_some option x y e f = let p = sym e ∙ f in cc p

-- a text of which both hold
record BothHold (P Q : List ℕ → Type 0) : Type 0 where
  pub text : List ℕ
  pub one : P text
  pub other : Q text

-- an image and a text of which both hold
record OfBothHold (P Q : ImageParts → List ℕ → Type 0) : Type 0 where
  pub image : ImageParts
  pub text : List ℕ
  pub one : P image text
  pub other : Q image text

-- What a cause is of, by what a command reads.

-- nothing is at fault where nothing is read
pub nothing_fails : (c : Command) (bytes : List ℕ) (s : Status) → Cause Nothing c bytes s → ⊥
nothing_fails c bytes status.Done h = h
nothing_fails c bytes status.Usage h = h
nothing_fails c bytes (status.Refused r) h = h
nothing_fails c bytes (status.TooLarge fault) h = h
nothing_fails c bytes (status.TooLong limit) h = h
nothing_fails c bytes (status.BadImage cause) h = h
nothing_fails c bytes status.ReadFault h = h
nothing_fails c bytes status.WriteFault h = h
nothing_fails c bytes status.OutOfMemory h = h
nothing_fails c bytes (status.BadObject index cause) h = h
nothing_fails c bytes (status.BadJoin fault) h = h
nothing_fails c bytes (status.NoSection name) h = h
nothing_fails c bytes (status.BadPolicy line) h = h
nothing_fails c bytes status.Differs h = h

data IsBadImage (bytes : List ℕ) (s : Status) : Type 0 where
  ByCause : (cause : ℕ) → s ≡ status.BadImage cause → cause_in bytes ≡ Some cause → IsBadImage bytes s

image_fails : (limit : ℕ) (c : Command) (bytes : List ℕ) (s : Status) → Cause (Image limit) c bytes s →
    IsBadImage bytes s
image_fails limit c bytes status.Done h = absurd h
image_fails limit c bytes status.Usage h = absurd h
image_fails limit c bytes (status.Refused r) h = absurd h
image_fails limit c bytes (status.TooLarge fault) h = absurd h
image_fails limit c bytes (status.TooLong most) h = absurd h
image_fails limit c bytes (status.BadImage cause) h = ByCause cause refl h
image_fails limit c bytes status.ReadFault h = absurd h
image_fails limit c bytes status.WriteFault h = absurd h
image_fails limit c bytes status.OutOfMemory h = absurd h
image_fails limit c bytes (status.BadObject index cause) h = absurd h
image_fails limit c bytes (status.BadJoin fault) h = absurd h
image_fails limit c bytes (status.NoSection name) h = absurd h
image_fails limit c bytes (status.BadPolicy line) h = absurd h
image_fails limit c bytes status.Differs h = absurd h

data AreBadObjects (bytes : List ℕ) (s : Status) : Type 0 where
  AtIndex : (index cause : ℕ) → s ≡ status.BadObject index cause → HasBadObject bytes index cause →
      AreBadObjects bytes s
  Apart : (fault : join.BadJoin) → s ≡ status.BadJoin fault → HasBadJoin bytes fault → AreBadObjects bytes s

objects_fail : (limit : ℕ) (c : Command) (bytes : List ℕ) (s : Status) → Cause (Objects limit) c bytes s →
    AreBadObjects bytes s
objects_fail limit c bytes status.Done h = absurd h
objects_fail limit c bytes status.Usage h = absurd h
objects_fail limit c bytes (status.Refused r) h = absurd h
objects_fail limit c bytes (status.TooLarge fault) h = absurd h
objects_fail limit c bytes (status.TooLong most) h = absurd h
objects_fail limit c bytes (status.BadImage cause) h = absurd h
objects_fail limit c bytes status.ReadFault h = absurd h
objects_fail limit c bytes status.WriteFault h = absurd h
objects_fail limit c bytes status.OutOfMemory h = absurd h
objects_fail limit c bytes (status.BadObject index cause) h = AtIndex index cause refl h
objects_fail limit c bytes (status.BadJoin fault) h = Apart fault refl h
objects_fail limit c bytes (status.NoSection name) h = absurd h
objects_fail limit c bytes (status.BadPolicy line) h = absurd h
objects_fail limit c bytes status.Differs h = absurd h

-- what is at fault with an image and the text after it
data FailAsBoth (within : ℕ) (c : Command) (bytes : List ℕ) (s : Status) : Type 0 where
  ImageFails : (cause : ℕ) → s ≡ status.BadImage cause → part_cause_in bytes ≡ Some cause → FailAsBoth within c bytes s
  TextIsLong : s ≡ status.TooLong within → HoldsAfterImage bytes (λ image text. within + 1 ≤ length text) →
      FailAsBoth within c bytes s
  TextIsBad : HoldsOfBoth within bytes (λ image text. Cause (Text 0) c text s) → FailAsBoth within c bytes s
  TextDiffers : s ≡ status.Differs → HoldsOfBoth within bytes (IsOfAnother c) → FailAsBoth within c bytes s

both_fail : (limit within : ℕ) (c : Command) (bytes : List ℕ) (s : Status) →
    Cause (ImageAndText limit within) c bytes s → FailAsBoth within c bytes s
both_fail limit within c bytes status.Done h = absurd h
both_fail limit within c bytes status.Usage h = absurd h
both_fail limit within c bytes (status.Refused r) h = TextIsBad h
both_fail limit within c bytes (status.TooLarge fault) h = TextIsBad h
both_fail limit within c bytes (status.TooLong most) h = TextIsLong (ap status.TooLong (sym h.0)) h.1
both_fail limit within c bytes (status.BadImage cause) h = ImageFails cause refl h
both_fail limit within c bytes status.ReadFault h = absurd h
both_fail limit within c bytes status.WriteFault h = absurd h
both_fail limit within c bytes status.OutOfMemory h = absurd h
both_fail limit within c bytes (status.BadObject index cause) h = absurd h
both_fail limit within c bytes (status.BadJoin fault) h = absurd h
both_fail limit within c bytes (status.NoSection name) h = TextIsBad h
both_fail limit within c bytes (status.BadPolicy line) h = absurd h
both_fail limit within c bytes status.Differs h = TextDiffers refl h

data FailsAfterPolicy (i : Intake) (c : Command) (bytes : List ℕ) (s : Status) : Type 0 where
  RestFails : HoldsAfterPolicy bytes (λ rest. Cause i c rest s) → FailsAfterPolicy i c bytes s
  PolicyFails : (line : ℕ) → s ≡ status.BadPolicy line → HasBadLine bytes line → FailsAfterPolicy i c bytes s

policy_fails : (i : Intake) (c : Command) (bytes : List ℕ) (s : Status) → Cause (AfterPolicy i) c bytes s →
    FailsAfterPolicy i c bytes s
policy_fails i c bytes status.Done h = absurd h
policy_fails i c bytes status.Usage h = absurd h
policy_fails i c bytes (status.Refused r) h = RestFails h
policy_fails i c bytes (status.TooLarge fault) h = RestFails h
policy_fails i c bytes (status.TooLong most) h = RestFails h
policy_fails i c bytes (status.BadImage cause) h = RestFails h
policy_fails i c bytes status.ReadFault h = absurd h
policy_fails i c bytes status.WriteFault h = absurd h
policy_fails i c bytes status.OutOfMemory h = absurd h
policy_fails i c bytes (status.BadObject index cause) h = absurd h
policy_fails i c bytes (status.BadJoin fault) h = absurd h
policy_fails i c bytes (status.NoSection name) h = RestFails h
policy_fails i c bytes (status.BadPolicy line) h = PolicyFails line refl h
policy_fails i c bytes status.Differs h = RestFails h

-- two statuses that are these
pub same_by : (s t one other : Status) → s ≡ one → t ≡ other → SameAnswer one other → SameAnswer s t
same_by s t one other is known same =
    subst (λ x. SameAnswer x t) (sym is) (subst (λ y. SameAnswer one y) (sym known) same)

-- the bytes of an image have no cause for being none
image_good : (bytes : List ℕ) (cause : ℕ) → IsImage bytes → cause_in bytes ≡ Some cause → ⊥
image_good bytes cause is b =
    let good = ap read_cause (is_read_again is.image bytes is.well_formed is.bytes_are) in
    none-some cause (ap (λ found. option_map cause_number found) (sym good) ∙ b)

module _
    (accepted_or_refused : (text : List ℕ) (program : ProgramTree) (phase : Phase) (line : ℕ) →
    Accepts text program → Fails text phase line → ⊥)
    (one_phase : (text : List ℕ) (phase other : Phase) (line later : ℕ) → Fails text phase line →
    Fails text other later → (phase ≡ other) × ((phase ≡ Syntax → ⊥) → line ≡ later))
    (one_program : (text : List ℕ) (program other : ProgramTree) →
    Accepts text program → Accepts text other → program ≡ other)
    (one_policy : (bytes : List ℕ) (one other : PolicyRead) → IsPolicyRead bytes one → IsPolicyRead bytes other →
    one ≡ other)
    (policy_or_bad : (bytes : List ℕ) (read : PolicyRead) (line : ℕ) → IsPolicyRead bytes read →
    IsBadAt (lines_of bytes) line → ⊥)
    (one_bad : (lines : List (List ℕ)) (one other : ℕ) → IsBadAt lines one → IsBadAt lines other → one ≡ other)
    (one_list : BytesNameOneList) (one_first : OneFirstBad) where
  -- the text after a policy is one
  both_hold : (bytes : List ℕ) (P Q : List ℕ → Type 0) → HoldsAfterPolicy bytes P → HoldsAfterPolicy bytes Q →
      BothHold P Q
  both_hold bytes P Q p q =
      let same = one_policy bytes p.read q.read p.is q.is in
      record {
        text = drop q.read.rest bytes;
        one = subst (λ (r : PolicyRead). P (drop r.rest bytes)) same p.holds;
        other = q.holds;
      }

  -- Of a text.

  one_unfit : (c : Command) (text : List ℕ) (fault other : TooLarge) → IsUnfit c text fault → IsUnfit c text other →
      fault ≡ other
  one_unfit c text fault other u v =
      let same = one_program text u.program v.program u.accepted v.accepted in
      same_some _ fault other (subst (λ p. large_in p ≡ Some fault) same u.found) v.found

  there_lacks : (c : Command) (text name : List ℕ) (program : ProgramTree) → Accepts text program →
      HasSection c program → LacksSection c text name → ⊥
  there_lacks c text name program is there l =
      let same = one_program text program l.program is l.accepted in
      none_is_some _ l.lacks
      (subst (λ (p : ProgramTree). IsSome (comp_named p.interfaces name)) same (there name l.asked))

  one_name : (c : Command) (text name other : List ℕ) → LacksSection c text name → LacksSection c text other →
      name ≡ other
  one_name c text name other l k = same_some _ name other l.asked k.asked

  -- a text has one cause
  one_text : (limit : ℕ) (c : Command) (text : List ℕ) (s t : Status) → Cause (Text limit) c text s →
      Cause (Text limit) c text t → SameAnswer s t
  one_text limit c text status.Done t a b = absurd a
  one_text limit c text status.Usage t a b = absurd a
  one_text limit c text (status.TooLong most) t a b = absurd a
  one_text limit c text (status.BadImage cause) t a b = absurd a
  one_text limit c text status.ReadFault t a b = absurd a
  one_text limit c text status.WriteFault t a b = absurd a
  one_text limit c text status.OutOfMemory t a b = absurd a
  one_text limit c text (status.BadObject index cause) t a b = absurd a
  one_text limit c text (status.BadJoin fault) t a b = absurd a
  one_text limit c text (status.BadPolicy line) t a b = absurd a
  one_text limit c text status.Differs t a b = absurd a
  one_text limit c text s status.Done a b = absurd b
  one_text limit c text s status.Usage a b = absurd b
  one_text limit c text s (status.TooLong most) a b = absurd b
  one_text limit c text s (status.BadImage cause) a b = absurd b
  one_text limit c text s status.ReadFault a b = absurd b
  one_text limit c text s status.WriteFault a b = absurd b
  one_text limit c text s status.OutOfMemory a b = absurd b
  one_text limit c text s (status.BadObject index cause) a b = absurd b
  one_text limit c text s (status.BadJoin fault) a b = absurd b
  one_text limit c text s (status.BadPolicy line) a b = absurd b
  one_text limit c text s status.Differs a b = absurd b
  one_text limit c text (status.Refused r) (status.Refused q) a b = one_phase text r.phase q.phase r.line q.line a b
  one_text limit c text (status.Refused r) (status.TooLarge f) a b =
      absurd (accepted_or_refused text b.program r.phase r.line b.accepted a)
  one_text limit c text (status.Refused r) (status.NoSection n) a b =
      absurd (accepted_or_refused text b.program r.phase r.line b.accepted a)
  one_text limit c text (status.TooLarge f) (status.Refused r) a b =
      absurd (accepted_or_refused text a.program r.phase r.line a.accepted b)
  one_text limit c text (status.TooLarge f) (status.TooLarge g) a b = ap status.TooLarge (one_unfit c text f g a b)
  one_text limit c text (status.TooLarge f) (status.NoSection n) a b =
      absurd (there_lacks c text n a.program a.accepted a.there b)
  one_text limit c text (status.NoSection n) (status.Refused r) a b =
      absurd (accepted_or_refused text a.program r.phase r.line a.accepted b)
  one_text limit c text (status.NoSection n) (status.TooLarge f) a b =
      absurd (there_lacks c text n b.program b.accepted b.there a)
  one_text limit c text (status.NoSection n) (status.NoSection m) a b = ap status.NoSection (one_name c text n m a b)

  -- a good text has none
  text_is_good : (limit : ℕ) (c : Command) (text : List ℕ) (s : Status) → IsGoodText c text →
      Cause (Text limit) c text s → ⊥
  text_is_good limit c text status.Done good h = h
  text_is_good limit c text status.Usage good h = h
  text_is_good limit c text (status.Refused r) good h =
      accepted_or_refused text good.program r.phase r.line good.accepted h
  text_is_good limit c text (status.TooLarge fault) good h =
      let same = one_program text good.program h.program good.accepted h.accepted in
      let none = subst (λ p. too_large p ≡ None) same (good.fits h.compiled) in
      none-some fault (ap (option_and_then _) (sym none) ∙ h.found)
  text_is_good limit c text (status.TooLong most) good h = h
  text_is_good limit c text (status.BadImage cause) good h = h
  text_is_good limit c text status.ReadFault good h = h
  text_is_good limit c text status.WriteFault good h = h
  text_is_good limit c text status.OutOfMemory good h = h
  text_is_good limit c text (status.BadObject index cause) good h = h
  text_is_good limit c text (status.BadJoin fault) good h = h
  text_is_good limit c text (status.NoSection name) good h =
      there_lacks c text name good.program good.accepted good.there h
  text_is_good limit c text (status.BadPolicy line) good h = h
  text_is_good limit c text status.Differs good h = h

  -- Of an image and the text that follows it.

  -- bytes begin with one image
  of_both_hold : (bytes : List ℕ) (P Q : ImageParts → List ℕ → Type 0) → HoldsAfterImage bytes P →
      HoldsAfterImage bytes Q → OfBothHold P Q
  of_both_hold bytes P Q p q = record {
    image = q.front.image;
    text = drop q.front.place bytes;
    one = subst (λ text. P q.front.image text) (one_rest bytes p.front q.front)
        (subst (λ image. P image (drop p.front.place bytes)) (one_front bytes p.front q.front).0 p.holds);
    other = q.holds;
  }

  short_or_long : (within : ℕ) (bytes : List ℕ) (P : ImageParts → List ℕ → Type 0) → HoldsOfBoth within bytes P →
      HoldsAfterImage bytes (λ image text. within + 1 ≤ length text) → ⊥
  short_or_long within bytes P p q =
      let both = of_both_hold bytes (λ image text. (length text ≤ within) × P image text)
      (λ image text. within + 1 ≤ length text) p q in
      let short = both.one.0 in
      let long = both.other in
      omega (arith, short, long)

  -- of a text that fails a phase, lacks a section or isn't compiled, no image differs
  bad_or_other : (c : Command) (image : ImageParts) (text : List ℕ) (s : Status) → Cause (Text 0) c text s →
      IsOfAnother c image text → ⊥
  bad_or_other c image text status.Done h a = h
  bad_or_other c image text status.Usage h a = h
  bad_or_other c image text (status.Refused r) h a =
      accepted_or_refused text a.program r.phase r.line a.accepted h
  bad_or_other c image text (status.TooLarge fault) h a =
      let same = one_program text a.program h.program a.accepted h.accepted in
      let fits = fits_of (too_large a.program) (built_image a.program) a.another.own a.another.compiled in
      let none = subst (λ p. too_large p ≡ None) same fits in
      none-some fault (ap (option_and_then _) (sym none) ∙ h.found)
  bad_or_other c image text (status.TooLong most) h a = h
  bad_or_other c image text (status.BadImage cause) h a = h
  bad_or_other c image text status.ReadFault h a = h
  bad_or_other c image text status.WriteFault h a = h
  bad_or_other c image text status.OutOfMemory h a = h
  bad_or_other c image text (status.BadObject index cause) h a = h
  bad_or_other c image text (status.BadJoin fault) h a = h
  bad_or_other c image text (status.NoSection name) h a = there_lacks c text name a.program a.accepted a.there h
  bad_or_other c image text (status.BadPolicy line) h a = h
  bad_or_other c image text status.Differs h a = h

  one_of_both : (within : ℕ) (c : Command) (bytes : List ℕ) (s t : Status) → FailAsBoth within c bytes s →
      FailAsBoth within c bytes t → SameAnswer s t
  one_of_both within c bytes s t (ImageFails n is a) (ImageFails m known b) =
      same_by s t _ _ is known (ap status.BadImage (same_some (part_cause_in bytes) n m a b))
  one_of_both within c bytes s t (ImageFails n is a) (TextIsLong known q) = absurd (front_good bytes n q.front a)
  one_of_both within c bytes s t (ImageFails n is a) (TextIsBad q) = absurd (front_good bytes n q.front a)
  one_of_both within c bytes s t (ImageFails n is a) (TextDiffers known q) = absurd (front_good bytes n q.front a)
  one_of_both within c bytes s t (TextIsLong is p) (ImageFails m known b) = absurd (front_good bytes m p.front b)
  one_of_both within c bytes s t (TextIsLong is p) (TextIsLong known q) = same_by s t _ _ is known refl
  one_of_both within c bytes s t (TextIsLong is p) (TextIsBad q) =
      absurd (short_or_long within bytes (λ image text. Cause (Text 0) c text t) q p)
  one_of_both within c bytes s t (TextIsLong is p) (TextDiffers known q) =
      absurd (short_or_long within bytes (IsOfAnother c) q p)
  one_of_both within c bytes s t (TextIsBad p) (ImageFails m known b) = absurd (front_good bytes m p.front b)
  one_of_both within c bytes s t (TextIsBad p) (TextIsLong known q) =
      absurd (short_or_long within bytes (λ image text. Cause (Text 0) c text s) p q)
  one_of_both within c bytes s t (TextIsBad p) (TextIsBad q) =
      let both = of_both_hold bytes (λ image text. (length text ≤ within) × Cause (Text 0) c text s)
      (λ image text. (length text ≤ within) × Cause (Text 0) c text t) p q in
      one_text 0 c both.text s t both.one.1 both.other.1
  one_of_both within c bytes s t (TextIsBad p) (TextDiffers known q) =
      let both = of_both_hold bytes (λ image text. (length text ≤ within) × Cause (Text 0) c text s)
      (λ image text. (length text ≤ within) × IsOfAnother c image text) p q in
      absurd (bad_or_other c both.image both.text s both.one.1 both.other.1)
  one_of_both within c bytes s t (TextDiffers is p) (ImageFails m known b) = absurd (front_good bytes m p.front b)
  one_of_both within c bytes s t (TextDiffers is p) (TextIsLong known q) =
      absurd (short_or_long within bytes (IsOfAnother c) p q)
  one_of_both within c bytes s t (TextDiffers is p) (TextIsBad q) =
      let both = of_both_hold bytes (λ image text. (length text ≤ within) × Cause (Text 0) c text t)
      (λ image text. (length text ≤ within) × IsOfAnother c image text) q p in
      absurd (bad_or_other c both.image both.text t both.one.1 both.other.1)
  one_of_both within c bytes s t (TextDiffers is p) (TextDiffers known q) = same_by s t _ _ is known refl

  -- an image and a good text, from whose own image it differs in given compartments only
  good_or_other : (c : Command) (image : ImageParts) (text : List ℕ) → IsGoodWith c image text →
      IsOfAnother c image text → ⊥
  good_or_other c image text good a =
      let same = one_program text good.text.program a.program good.text.accepted a.accepted in
      let compiled : image_of a.program ≡ Ok good.own = subst (λ p. image_of p ≡ Ok good.own) same good.compiled in
      let owns = sym compiled ∙ a.another.compiled in
      let own : good.own ≡ a.another.own = cc owns in
      a.another.differs good.given (subst (λ o. IsButFor good.given o image) own good.but_for)

  both_are_good : (within : ℕ) (c : Command) (bytes : List ℕ) (s : Status) → HoldsOfBoth within bytes (IsGoodWith c) →
      FailAsBoth within c bytes s → ⊥
  both_are_good within c bytes s good (ImageFails cause is b) = front_good bytes cause good.front b
  both_are_good within c bytes s good (TextIsLong is p) = short_or_long within bytes (IsGoodWith c) good p
  both_are_good within c bytes s good (TextIsBad p) =
      let both = of_both_hold bytes (λ image text. (length text ≤ within) × Cause (Text 0) c text s)
      (λ image text. (length text ≤ within) × IsGoodWith c image text) p good in
      text_is_good 0 c both.text s both.other.1.text both.one.1
  both_are_good within c bytes s good (TextDiffers is p) =
      let both = of_both_hold bytes (λ image text. (length text ≤ within) × IsOfAnother c image text)
      (λ image text. (length text ≤ within) × IsGoodWith c image text) p good in
      good_or_other c both.image both.text both.other.1 both.one.1

  -- Of what follows a policy.

  one_line : (bytes : List ℕ) (n m : ℕ) → HasBadLine bytes n → HasBadLine bytes m → n ≡ m
  one_line bytes n m a b =
      a.number ∙ (ap (λ first. min first 4294967295) (one_bad (lines_of bytes) a.first b.first a.bad b.bad) ∙
      sym b.number)

  one_after_policy : (i : Intake) (c : Command) (bytes : List ℕ) (s t : Status) →
      ((rest : List ℕ) → Cause i c rest s → Cause i c rest t → SameAnswer s t) → FailsAfterPolicy i c bytes s →
      FailsAfterPolicy i c bytes t → SameAnswer s t
  one_after_policy i c bytes s t each (RestFails p) (RestFails q) =
      let both = both_hold bytes (λ rest. Cause i c rest s) (λ rest. Cause i c rest t) p q in
      each both.text both.one both.other
  one_after_policy i c bytes s t each (RestFails p) (PolicyFails line is l) =
      absurd (policy_or_bad bytes p.read l.first p.is l.bad)
  one_after_policy i c bytes s t each (PolicyFails line is l) (RestFails p) =
      absurd (policy_or_bad bytes p.read l.first p.is l.bad)
  one_after_policy i c bytes s t each (PolicyFails n is l) (PolicyFails m known k) =
      same_by s t _ _ is known (ap status.BadPolicy (one_line bytes n m l k))

  policy_is_good : (i : Intake) (c : Command) (bytes : List ℕ) (s : Status) →
      ((rest : List ℕ) → IsGoodIn i c rest → Cause i c rest s → ⊥) → HoldsAfterPolicy bytes (IsGoodIn i c) →
      FailsAfterPolicy i c bytes s → ⊥
  policy_is_good i c bytes s each good (RestFails p) =
      let both = both_hold bytes (λ rest. Cause i c rest s) (IsGoodIn i c) p good in
      each both.text both.other both.one
  policy_is_good i c bytes s each good (PolicyFails line is l) = policy_or_bad bytes good.read l.first good.is l.bad

  -- Of an image.

  one_image_cause : (bytes : List ℕ) (s t : Status) → IsBadImage bytes s → IsBadImage bytes t → SameAnswer s t
  one_image_cause bytes s t (ByCause n is a) (ByCause m known b) =
      same_by s t _ _ is known (ap status.BadImage (same_some (cause_in bytes) n m a b))

  image_is_good : (bytes : List ℕ) (s : Status) → IsImage bytes → IsBadImage bytes s → ⊥
  image_is_good bytes s good (ByCause cause is b) = image_good bytes cause good b

  -- Of objects.

  one_bad_object : (bytes : List ℕ) (i j n m : ℕ) → HasBadObject bytes i n → HasBadObject bytes j m →
      status.BadObject i n ≡ status.BadObject j m
  one_bad_object bytes i j n m a b =
      let index = one_first.index bytes i j a.why b.why a.first b.first in
      let cause = a.number ∙ (ap object_cause (one_first.cause bytes i j a.why b.why a.first b.first) ∙
      sym b.number) in
      ap₂ status.BadObject index cause

  one_join : (bytes : List ℕ) (fault other : join.BadJoin) → HasBadJoin bytes fault → HasBadJoin bytes other →
      fault ≡ other
  one_join bytes fault other a b =
      let same = one_list bytes a.objects b.objects a.read b.read in
      same_some _ fault other (subst (λ objects. bad_join_in objects ≡ Some fault) same a.found) b.found

  bad_or_objects : (bytes : List ℕ) (objects : List ObjectParts) (index cause : ℕ) → AreBytesOf objects bytes →
      HasBadObject bytes index cause → ⊥
  bad_or_objects bytes objects index cause are bad = one_first.never bytes objects index bad.why are bad.first

  one_of_objects : (bytes : List ℕ) (s t : Status) → AreBadObjects bytes s → AreBadObjects bytes t → SameAnswer s t
  one_of_objects bytes s t (AtIndex i n is a) (AtIndex j m known b) =
      same_by s t _ _ is known (one_bad_object bytes i j n m a b)
  one_of_objects bytes s t (AtIndex i n is a) (Apart fault known b) =
      absurd (bad_or_objects bytes b.objects i n b.read a)
  one_of_objects bytes s t (Apart fault is a) (AtIndex j m known b) =
      absurd (bad_or_objects bytes a.objects j m a.read b)
  one_of_objects bytes s t (Apart fault is a) (Apart other known b) =
      same_by s t _ _ is known (ap status.BadJoin (one_join bytes fault other a b))

  objects_are_good : (bytes : List ℕ) (s : Status) → CanBeLinked bytes → AreBadObjects bytes s → ⊥
  objects_are_good bytes s good (AtIndex index cause is bad) =
      bad_or_objects bytes good.objects index cause good.read bad
  objects_are_good bytes s good (Apart fault is bad) =
      let same = one_list bytes good.objects bad.objects good.read bad.read in
      let none = subst (λ objects. join_fault objects ≡ None) same good.good in
      none-some fault (ap (option_and_then _) (sym none) ∙ bad.found)

  -- Of all.

  -- bytes have one cause
  pub one_cause : (i : Intake) (c : Command) (bytes : List ℕ) (s t : Status) → Cause i c bytes s →
      Cause i c bytes t → SameAnswer s t
  one_cause (Text limit) c bytes s t a b = one_text limit c bytes s t a b
  one_cause (ImageAndText limit within) c bytes s t a b =
      one_of_both within c bytes s t (both_fail limit within c bytes s a) (both_fail limit within c bytes t b)
  one_cause (AfterPolicy i) c bytes s t a b =
      one_after_policy i c bytes s t (λ rest. one_cause i c rest s t) (policy_fails i c bytes s a)
      (policy_fails i c bytes t b)
  one_cause (Image limit) c bytes s t a b =
      one_image_cause bytes s t (image_fails limit c bytes s a) (image_fails limit c bytes t b)
  one_cause (Objects limit) c bytes s t a b =
      one_of_objects bytes s t (objects_fail limit c bytes s a) (objects_fail limit c bytes t b)
  one_cause Nothing c bytes s t a b = absurd (nothing_fails c bytes s a)

  -- and good input has none
  pub good_or_cause : (i : Intake) (c : Command) (bytes : List ℕ) (s : Status) → IsGoodIn i c bytes →
      Cause i c bytes s → ⊥
  good_or_cause (Text limit) c bytes s good a = text_is_good limit c bytes s good a
  good_or_cause (ImageAndText limit within) c bytes s good a =
      both_are_good within c bytes s good (both_fail limit within c bytes s a)
  good_or_cause (AfterPolicy i) c bytes s good a =
      policy_is_good i c bytes s (λ rest. good_or_cause i c rest s) good (policy_fails i c bytes s a)
  good_or_cause (Image limit) c bytes s good a = image_is_good bytes s good (image_fails limit c bytes s a)
  good_or_cause (Objects limit) c bytes s good a = objects_are_good bytes s good (objects_fail limit c bytes s a)
  good_or_cause Nothing c bytes s good a = nothing_fails c bytes s a
