-- Bytes of a front that are taken of a run, by its kind.
use Rattle.std.proofs.Common.{◌≡◌, ℕ, ◌==◌, ◌≤◌, Bool, true, List, length, take, take_while, Some, None, refl, sym, ap, subst, ◌∙◌, arith}
use Rattle.std.specs.List.{AllByRecursion, prefix_len}
use Rattle.std.proofs.lemmas.List.Folds.{length-prefix_len}
use Rattle.std.proofs.lemmas.List.Sums.{prefix_len-le-length}
use Rattle.input_source.specs.Bytes.{blank, is_passed, is_text_byte}
use Rattle.input_source.proofs.PlainBytes.{take_while-plain}
use Rattle.input_arguments.specs.ArgumentTexts.Kept.{KeptArguments, HoldsFront}
use Rattle.input_escapes.specs.ConditionFronts.{TakesFront as ReadsCondition}
use Rattle.input_escapes.specs.EscapeFronts.{ReadsFront}
use Rattle.input_escapes.specs.EscapeTexts.{KeptEscapes}
use Rattle.roff_scan.specs.Unread.Runs.{TakesPart}
use Rattle.roff_scan.specs.declared.run_kind.RunKind.{RunKind}
use Rattle.roff_scan.specs.declared.run_kind.RunKind.TheVariants.{Arguments, Blanks, CallArguments, Condition, Definition, Dropped, Ignored, Name}
use Rattle.roff_scan.proofs.RunKinds.{any_byte, no_bound}

-- so many bytes begin others as far as they are such
pub record Begin (p : ℕ → Bool) (bytes : List ℕ) (count : ℕ) : Type 0 where
  pub few : count ≤ length bytes
  pub are : AllByRecursion (λ b. p b ≡ true) (take count bytes)
  pub whole : take count bytes ≡ take_while p bytes

pub begin : (p : ℕ → Bool) (bytes : List ℕ) (count : ℕ) → count ≡ length (take_while p bytes) → Begin p bytes count
begin p bytes count is =
    let counted : count ≡ prefix_len p bytes = is ∙ length-prefix_len p bytes in
    let whole : take count bytes ≡ take_while p bytes = ap (λ (n : ℕ). take n bytes) counted in
    record {
      few = omega (arith, counted, prefix_len-le-length p bytes);
      are = subst (λ (xs : List ℕ). AllByRecursion (λ b. p b ≡ true) xs) (sym whole) (take_while-plain p bytes);
      whole = whole;
    }

module _ (kind : RunKind) (bytes : List ℕ) (count : ℕ) (a : KeptArguments) (k : KeptEscapes) where
  -- where the bytes tell it by themselves
  pub part-blanks : kind ≡ Blanks → count ≡ length (take_while (λ b. b == blank) bytes) → TakesPart kind bytes count a a k k
  part-blanks is counted =
      let begins = begin (λ b. b == blank) bytes count counted in
      subst (λ (one : RunKind). TakesPart one bytes count a a k k) (sym is) (record {
        few = begins.few;
        are_of = begins.are;
        fewer = no_bound (take count bytes) a.arguments;
        held = refl;
        half_read = refl;
        room = refl;
        whole = λ goes. begins.whole;
      })

  pub part-definition : kind ≡ Definition → count ≡ length (take_while is_text_byte bytes) → TakesPart kind bytes count a a k k
  part-definition is counted =
      let begins = begin is_text_byte bytes count counted in
      subst (λ (one : RunKind). TakesPart one bytes count a a k k) (sym is) (record {
        few = begins.few;
        are_of = begins.are;
        fewer = no_bound (take count bytes) a.arguments;
        held = refl;
        half_read = refl;
        room = refl;
        whole = λ goes. begins.whole;
      })

  pub part-ignored : kind ≡ Ignored → count ≡ length (take_while is_text_byte bytes) → TakesPart kind bytes count a a k k
  part-ignored is counted =
      let begins = begin is_text_byte bytes count counted in
      subst (λ (one : RunKind). TakesPart one bytes count a a k k) (sym is) (record {
        few = begins.few;
        are_of = begins.are;
        fewer = no_bound (take count bytes) a.arguments;
        held = refl;
        half_read = refl;
        room = refl;
        whole = λ goes. begins.whole;
      })

  pub part-dropped : (within_block : Bool) → kind ≡ Dropped within_block → count ≡ length (take_while (is_passed within_block) bytes) → TakesPart kind bytes count a a k k
  part-dropped within_block is counted =
      let begins = begin (is_passed within_block) bytes count counted in
      subst (λ (one : RunKind). TakesPart one bytes count a a k k) (sym is) (record {
        few = begins.few;
        are_of = begins.are;
        fewer = no_bound (take count bytes) a.arguments;
        held = refl;
        half_read = refl;
        room = refl;
        whole = λ goes. begins.whole;
      })

  -- where they are held in arguments
  pub part-held : (new : KeptArguments) → kind ≡ Arguments → HoldsFront None bytes count a new → TakesPart kind bytes count a new k k
  part-held new is holds =
      subst (λ (one : RunKind). TakesPart one bytes count a new k k) (sym is) (record {
        few = holds.few;
        are_of = holds.plain;
        fewer = holds.fewer;
        held = holds.taken;
        half_read = refl;
        room = refl;
        whole = λ goes. absurd (cc);
      })

  pub part-held_fewer : (new : KeptArguments) (most : ℕ) → kind ≡ CallArguments most → HoldsFront (Some most) bytes count a new → TakesPart kind bytes count a new k k
  part-held_fewer new most is holds =
      subst (λ (one : RunKind). TakesPart one bytes count a new k k) (sym is) (record {
        few = holds.few;
        are_of = holds.plain;
        fewer = holds.fewer;
        held = holds.taken;
        half_read = refl;
        room = refl;
        whole = λ goes. absurd (cc);
      })

  -- where they change what is half read
  pub part-name : (new : KeptEscapes) → kind ≡ Name → ReadsFront bytes count k new → TakesPart kind bytes count a a k new
  part-name new is reads =
      subst (λ (one : RunKind). TakesPart one bytes count a a k new) (sym is) (record {
        few = reads.few;
        are_of = any_byte (take count bytes);
        fewer = no_bound (take count bytes) a.arguments;
        held = refl;
        half_read = reads.read;
        room = reads.room;
        whole = λ goes. absurd (cc);
      })

  pub part-condition : (new : KeptEscapes) → kind ≡ Condition → ReadsCondition bytes count k new → TakesPart kind bytes count a a k new
  part-condition new is reads =
      subst (λ (one : RunKind). TakesPart one bytes count a a k new) (sym is) (record {
        few = reads.few;
        are_of = any_byte (take count bytes);
        fewer = no_bound (take count bytes) a.arguments;
        held = refl;
        half_read = reads.taken;
        room = reads.room;
        whole = λ goes. absurd (cc);
      })
