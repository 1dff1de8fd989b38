-- What `explain --image` reports of an image and the text that follows it.
use Rattle.sc_top.proofs.Common.{BeginWithImage, Explanation, ImageParts, Interfaces, IsImage, List, ProgramTree, Some}
use Rattle.sc_top.proofs.Common.{SourceParts, [], ap, append-nil, append_assoc, ap₂, image_interfaces, is_listed}
use Rattle.sc_top.proofs.Common.{length, machine_run, machine_text, map, refl, subst, sym, take, word_of, ℕ, ◌++◌, ◌∙◌}
use Rattle.sc_top.proofs.Common.{◌≡◌, ◌≤◌}
use Rattle.sc_base.specs.Prelude.{IsPrefix}
use Rattle.sc_chain.specs.Prelude.{IsImageExplained, OwnImagesAreExplained}
use Rattle.sc_compile.proofs.Reported.{same_lines}
use Rattle.sc_image.specs.Prelude.{AreBytesOf}
use Rattle.sc_report.specs.Report.{chain_text, given_line, run_text, stop_line}
use Rattle.std.specs.Prelude.{flat_map}
use Rattle.std.proofs.Math.Seq.{take-append_seam}
use Rattle.std.proofs.lemmas.List.{length-append}
use Rattle.sc_image.proofs.Whole.{are_written}
use Rattle.sc_object.specs.Prelude.{JoinsButFor}
use Rattle.sc_compile.specs.declared.fault.CompileFault.{CompileFault}
use Rattle.sc_top.proofs.Answers.{image_short}
use Rattle.sc_top.proofs.Large.{fits_of}
use Rattle.sc_top.proofs.Outputs.{asks_none}
use Rattle.sc_top.proofs.Parts.{one_front, one_rest}
use Rattle.sc_top.specs.Accounts.{AccountsRunAsExec, CompiledImagesAreExplained, ExplainsAs}
use Rattle.sc_top.specs.Accounts.{LinkedImagesAreExplained, explaining}
use Rattle.sc_top.specs.Answer.{IsGood, IsWithin}
use Rattle.sc_top.specs.Output.{HasAccountIn, IsExplainedOn, IsGoodWith, report_text}
use Rattle.sc_top.proofs.Common.{Compile, HasImage, IsSource, IsTextOutput, None, false}
use Rattle.sc_top.proofs.Common.{Accepts, Ok, Result, arith, drop, image_of, true}
use Rattle.sc_image.specs.Prelude.{image_bytes}
use Rattle.sc_compile.specs.Image.{built_image}
use Rattle.sc_image.specs.Prelude.{IsButFor, IsWellFormed}
use Rattle.std.specs.Prelude.{Bool}
use Rattle.std.proofs.Math.Seq.{drop-append_seam}
use Rattle.sc_top_words.specs.declared.command.RunOptions.{RunOptions}
use Rattle.sc_top.proofs.Common.{AreImageAndText, IsJudged, IsPolicyRead, JudgeOptions, PolicyRead, take_all}
use Rattle.sc_top.specs.Accounts.{CompiledImagesAreJudged, IsWholePolicy, JudgmentsRunAsExec}
use Rattle.sc_monitor.specs.Prelude.{verdict}
use Rattle.sc_report.specs.Verdict.{verdict_text}

-- THE IMAGE BEFORE THE TEXT

abbrev pub front_of : (image text : List ℕ) → IsImage image → BeginWithImage (image ++ text)
front_of image text read = record {
  image = read.image;
  place = length image;
  well_formed = read.well_formed;
  begin = record {
    within = subst (λ n. length image ≤ n) (sym (length-append image text)) (omega arith);
    are = subst (AreBytesOf read.image) (sym (take-append_seam image text)) read.bytes_are;
  };
}

-- THE RUN

module _ (source : SourceParts) (image : ImageParts) (options : RunOptions) (explanation : Explanation)
    (is : IsImageExplained source image (map word_of options.inputs) options.steps options.events explanation) where
  -- what `exec` writes for the image, by the program's own names
  run_as_executed : machine_text (image_interfaces image) options image ≡
      machine_text source.program.interfaces options image
  run_as_executed =
      let robust = is.right.robust (is_listed explanation.given) image is.differ.but_for in
      ap (λ lines. lines ++ stop_line (machine_run options image).stop)
      (same_lines source.program.interfaces image robust.interfaces (machine_run options image).state.trace)

  -- the report begins with it
  abbrev rest : List ℕ
  rest = flat_map (given_line source.program.interfaces) explanation.given ++
      (chain_text source.program.interfaces explanation.links ++ [])

  begins : report_text false source explanation ≡ machine_text (image_interfaces image) options image ++ rest
  begins =
      let names = source.program.interfaces in
      let run = run_text names explanation.trace explanation.stop in
      let given = flat_map (given_line names) explanation.given in
      let chain = chain_text names explanation.links in
      append_assoc (run ++ given) chain [] ∙ (append_assoc run given (chain ++ []) ∙
      ap (λ lines. lines ++ rest) (ap₂ (run_text names) is.account.trace is.account.stop ∙ sym run_as_executed))

pub accounts_run_as_exec : AccountsRunAsExec
accounts_run_as_exec options image text out its is executed =
    let found = is.found in
    let same = (one_front (image ++ text) found.are.front (front_of image text executed.read)).0 in
    let explained =
    subst (λ i. IsExplainedOn i found.has.source options found.has.explanation) (found.are.is ∙ ap Some same)
    found.has.explained in
    record {
      more = rest found.has.source executed.read.image options found.has.explanation explained;
      is = is.written ∙
          (begins found.has.source executed.read.image options found.has.explanation explained ∙
          ap (λ lines. lines ++ rest found.has.source executed.read.image options found.has.explanation explained)
          (sym executed.written));
    }

-- A READ IMAGE AND A TEXT

-- what is written of an image is its bytes
abbrev written_image : (image : ImageParts) (bytes : List ℕ) → IsWellFormed image → bytes ≡ image_bytes image →
    IsImage bytes
written_image image bytes formed written = record {
  image = image;
  well_formed = formed;
  bytes_are = subst (AreBytesOf image) (sym written) (are_written image);
}

module _ (one_program : (text : List ℕ) (program other : ProgramTree) →
    Accepts text program → Accepts text other → program ≡ other) (options : RunOptions) (given : ℕ → Bool)
    (text bytes : List ℕ) (short : length text ≤ 1048576) (program : ProgramTree) (accepted : Accepts text program)
    (own : ImageParts) (compiled : image_of program ≡ Ok own) (read : IsImage bytes)
    (but_for : IsButFor given own read.image) where
  abbrev front : BeginWithImage (bytes ++ text)
  front = front_of bytes text read

  after_it : drop (length bytes) (bytes ++ text) ≡ text
  after_it = drop-append_seam bytes text

  good_with : IsGoodWith (explaining true options) read.image text
  good_with = record {
    text = record {
      program = program;
      accepted = accepted;
      there = asks_none (explaining true options) refl program;
      fits = λ _. fits_of _ (built_image program) own compiled;
    };
    own = own;
    compiled = compiled;
    given = given;
    but_for = but_for;
  }

  is_good : IsGood (explaining true options) (bytes ++ text)
  is_good = record {
    front = front;
    holds = (
      subst (λ (rest : List ℕ). length rest ≤ 1048576) (sym after_it) short,
      subst (IsGoodWith (explaining true options) read.image) (sym after_it) good_with,
    );
  }

  is_within : IsWithin (explaining true options) (bytes ++ text)
  is_within =
      let whole = length-append bytes text in
      let image = image_short bytes read in
      omega (arith, whole, image, short)

  module _ (found : HasAccountIn true options (bytes ++ text)) where
    abbrev Explained : Type 0
    Explained = IsImageExplained found.has.source read.image (map word_of options.inputs) options.steps options.events
        found.has.explanation

    explained : Explained
    explained =
        subst (λ i. IsExplainedOn i found.has.source options found.has.explanation)
        (found.are.is ∙ ap Some (one_front (bytes ++ text) found.are.front front).0) found.has.explained

    same_text : found.has.source.bytes ≡ text
    same_text = found.has.whole ∙ (found.are.rest ∙ (one_rest (bytes ++ text) found.are.front front ∙ after_it))

    same_program : found.has.source.program ≡ program
    same_program = one_program text found.has.source.program program
        (subst (λ t. Accepts t found.has.source.program) same_text found.has.parts.accepted) accepted

    same_own : explained.own ≡ own
    same_own =
        let owns : ◌≡◌ {A = Result ImageParts CompileFault} (Ok explained.own) (Ok own) =
        sym explained.compiled ∙ (ap image_of same_program ∙ compiled) in
        cc owns

    only_given : (comp : ℕ) → is_listed found.has.explanation.given comp ≡ true → given comp ≡ true
    only_given = explained.differ.least given (subst (λ o. IsButFor given o read.image) (sym same_own) but_for)

-- WHAT WAS LINKED

pub linked_images_are_explained : ((text : List ℕ) (program other : ProgramTree) →
    Accepts text program → Accepts text other → program ≡ other) → JoinsButFor → LinkedImagesAreExplained
linked_images_are_explained one_program joins given options text linked is =
    let read = written_image is.is.image linked is.is.well_formed is.is.written in
    let but_for = joins is.program is.own is.is.image given is.is.can.objects is.has.compiled is.has.right.well_formed
    is.is.well_formed is.objects is.is.joined in
    record {
      within = is_within one_program options given text linked is.short is.program is.accepted is.own is.has.compiled
          read but_for;
      good = is_good one_program options given text linked is.short is.program is.accepted is.own is.has.compiled read
          but_for;
      only = only_given one_program options given text linked is.short is.program is.accepted is.own is.has.compiled
          read but_for;
    }

-- WHAT WAS COMPILED

-- nobody is given in the own image
own_but_for : (image : ImageParts) → IsWellFormed image → IsButFor (λ comp. false) image image
own_but_for image formed = record {
  formed = formed;
  main = refl;
  entry = λ no. refl;
  seen = refl;
  kept = λ comp no. refl;
}

module _ (one_program : (text : List ℕ) (program other : ProgramTree) →
    Accepts text program → Accepts text other → program ≡ other) (law : OwnImagesAreExplained) (options : RunOptions)
    (text bytes : List ℕ) (short : length text ≤ 1048576) (is : IsTextOutput Compile text bytes) where
  has : HasImage is.program is.image
  has = is.compiled refl

  abbrev read : IsImage bytes
  read = written_image is.image bytes has.right.well_formed is.written

  own : IsButFor (λ comp. false) is.image is.image
  own = own_but_for is.image has.right.well_formed

  of_source : (source : SourceParts) → IsSource source → source.bytes ≡ text → image_of source.program ≡ Ok is.image
  of_source source parts same =
      ap image_of (one_program text source.program is.program
      (subst (λ t. Accepts t source.program) same parts.accepted) is.accepted) ∙ has.compiled

  to_text : HasAccountIn true options (bytes ++ text) → HasAccountIn false options text
  to_text found =
      let same = same_text one_program options (λ comp. false) text bytes short is.program is.accepted is.image
      has.compiled read own found in
      let it = explained one_program options (λ comp. false) text bytes short is.program is.accepted is.image
      has.compiled read own found in
      record {
        image = None;
        text = text;
        are = (refl, refl);
        has = record {
          source = found.has.source;
          parts = found.has.parts;
          whole = same;
          explanation = found.has.explanation;
          explained = (law found.has.source is.image (map word_of options.inputs) options.steps options.events
              found.has.explanation found.has.parts (of_source found.has.source found.has.parts same)).0 it;
          texts = found.has.texts;
          short = found.has.short;
        };
      }

  from_text : HasAccountIn false options text → HasAccountIn true options (bytes ++ text)
  from_text found =
      let same = found.has.whole ∙ found.are.1 in
      record {
        image = Some is.image;
        text = text;
        are = record {
          front = front_of bytes text read;
          is = refl;
          rest = sym (drop-append_seam bytes text);
          short = short;
        };
        has = record {
          source = found.has.source;
          parts = found.has.parts;
          whole = same;
          explanation = found.has.explanation;
          explained = (law found.has.source is.image (map word_of options.inputs) options.steps options.events
              found.has.explanation found.has.parts (of_source found.has.source found.has.parts same)).1
              (subst (λ i. IsExplainedOn i found.has.source options found.has.explanation) found.are.0
              found.has.explained);
          texts = found.has.texts;
          short = found.has.short;
        };
      }

  explains_so : ExplainsAs options text (bytes ++ text)
  unfolding to_text from_text
  explains_so = record {
    within = is_within one_program options (λ comp. false) text bytes short is.program is.accepted is.image has.compiled
        read own;
    good = is_good one_program options (λ comp. false) text bytes short is.program is.accepted is.image has.compiled
        read own;
    same = λ out. (
      (λ it. record { found = to_text it.found; written = it.written }),
      (λ it. record { found = from_text it.found; written = it.written }),
    );
  }

pub compiled_images_are_explained : ((text : List ℕ) (program other : ProgramTree) →
    Accepts text program → Accepts text other → program ≡ other) → OwnImagesAreExplained → CompiledImagesAreExplained
compiled_images_are_explained one_program law options text image short is =
    explains_so one_program law options text image short is

-- A WHOLE POLICY

module _ (policy : List ℕ) (whole : IsWholePolicy policy) (rest : List ℕ) where
  -- it is read whatever follows it
  read_again : IsPolicyRead (policy ++ rest) whole.read
  read_again = record {
    lines = whole.is.lines;
    is = whole.is.is;
    prefix = ap (λ n. take n (policy ++ rest)) whole.whole ∙ (take-append_seam policy rest ∙
        (sym (ap (λ n. take n policy) whole.whole ∙ take_all (length policy) policy (omega arith)) ∙ whole.is.prefix));
    within =
        let longer = length-append policy rest in
        let all = whole.whole in
        omega (arith, longer, all);
  }

  -- and what follows it is left
  left : drop whole.read.rest (policy ++ rest) ≡ rest
  left = ap (λ n. drop n (policy ++ rest)) whole.whole ∙ drop-append_seam policy rest

-- the same account of the same bytes
abbrev account_at : (with_image : Bool) (options : RunOptions) (bytes others : List ℕ) → bytes ≡ others →
    HasAccountIn with_image options bytes → HasAccountIn with_image options others
account_at with_image options bytes others same found = record {
  image = found.image;
  text = found.text;
  are = subst (λ b. AreImageAndText with_image b found.image found.text) same found.are;
  has = found.has;
}

-- WHAT IS JUDGED

abbrev judging_by : Bool → RunOptions → JudgeOptions
judging_by with_image options = record { run = options; image = with_image; trapped = false }

module _ (one_program : (text : List ℕ) (program other : ProgramTree) →
    Accepts text program → Accepts text other → program ≡ other) (one_policy : (bytes : List ℕ)
    (one other : PolicyRead) → IsPolicyRead bytes one → IsPolicyRead bytes other → one ≡ other)
    (law : OwnImagesAreExplained) (options : RunOptions) (policy text image : List ℕ) (whole : IsWholePolicy policy)
    (short : length text ≤ 1048576) (is : IsTextOutput Compile text image) where
  -- the policy that is read of these bytes is read of others, too, and the rest of them follows
  module _ (rest other : List ℕ) (read : PolicyRead) (known : IsPolicyRead (policy ++ rest) read) where
    same_read : whole.read ≡ read
    same_read = one_policy (policy ++ rest) whole.read read (read_again policy whole rest) known

    read_of_other : IsPolicyRead (policy ++ other) read
    read_of_other = subst (IsPolicyRead (policy ++ other)) same_read (read_again policy whole other)

    left_of : (bytes : List ℕ) → drop read.rest (policy ++ bytes) ≡ bytes
    left_of bytes =
        subst (λ (r : PolicyRead). drop r.rest (policy ++ bytes) ≡ bytes) same_read (left policy whole bytes)

  to_text_judged : (out : List ℕ) → IsJudged (judging_by true options) (policy ++ (image ++ text)) out →
      IsJudged (judging_by false options) (policy ++ text) out
  unfolding to_text
  to_text_judged out it = record {
    read = it.read;
    is = read_of_other (image ++ text) text it.read it.is;
    found = account_at false options text (drop it.read.rest (policy ++ text))
        (sym (left_of (image ++ text) text it.read it.is text))
        (to_text one_program law options text image short is
        (account_at true options (drop it.read.rest (policy ++ (image ++ text))) (image ++ text)
        (left_of (image ++ text) text it.read it.is (image ++ text)) it.found));
    written = it.written;
    committed = it.committed;
  }

  from_text_judged : (out : List ℕ) → IsJudged (judging_by false options) (policy ++ text) out →
      IsJudged (judging_by true options) (policy ++ (image ++ text)) out
  unfolding from_text
  from_text_judged out it = record {
    read = it.read;
    is = read_of_other text (image ++ text) it.read it.is;
    found = account_at true options (image ++ text) (drop it.read.rest (policy ++ (image ++ text)))
        (sym (left_of text (image ++ text) it.read it.is (image ++ text)))
        (from_text one_program law options text image short is
        (account_at false options (drop it.read.rest (policy ++ text)) text
        (left_of text (image ++ text) it.read it.is text) it.found));
    written = it.written;
    committed = it.committed;
  }

pub compiled_images_are_judged : ((text : List ℕ) (program other : ProgramTree) →
    Accepts text program → Accepts text other → program ≡ other) → ((bytes : List ℕ) (one other : PolicyRead) →
    IsPolicyRead bytes one → IsPolicyRead bytes other → one ≡ other) → OwnImagesAreExplained →
    CompiledImagesAreJudged
compiled_images_are_judged one_program one_policy law options policy text image whole short is out = (
  to_text_judged one_program one_policy law options policy text image whole short is out,
  from_text_judged one_program one_policy law options policy text image whole short is out,
)

-- what `exec` writes begins the report, also that of `judge`
pub judgments_run_as_exec : ((bytes : List ℕ) (one other : PolicyRead) → IsPolicyRead bytes one →
    IsPolicyRead bytes other → one ≡ other) → JudgmentsRunAsExec
judgments_run_as_exec one_policy options policy image text out its whole is executed =
    let same_read = one_policy (policy ++ (image ++ text)) whole.read is.read (read_again policy whole (image ++ text))
    is.is in
    let after = subst (λ (r : PolicyRead). drop r.rest (policy ++ (image ++ text)) ≡ image ++ text) same_read
    (left policy whole (image ++ text)) in
    let found =
    account_at true options (drop is.read.rest (policy ++ (image ++ text))) (image ++ text) after is.found in
    let same = (one_front (image ++ text) found.are.front (front_of image text executed.read)).0 in
    let explained =
    subst (λ i. IsExplainedOn i found.has.source options found.has.explanation) (found.are.is ∙ ap Some same)
    found.has.explained in
    let names = is.found.has.source.program.interfaces in
    let verdict_line =
    verdict_text is.read.policy.states names (verdict is.read.policy names is.found.has.explanation) in
    record {
      more = rest found.has.source executed.read.image options found.has.explanation explained ++ verdict_line;
      is = is.written ∙
          (ap (λ lines. lines ++ verdict_line)
          (begins found.has.source executed.read.image options found.has.explanation explained) ∙
          (append_assoc (machine_text (image_interfaces executed.read.image) options executed.read.image)
          (rest found.has.source executed.read.image options found.has.explanation explained) verdict_line ∙
          ap (λ lines. lines ++ (rest found.has.source executed.read.image options found.has.explanation explained ++
          verdict_line)) (sym executed.written)));
    }
