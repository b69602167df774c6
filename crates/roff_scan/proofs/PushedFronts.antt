-- Bytes of a pushed text that a condition takes at once: what is left ahead and half read behind them.
use Rattle.std.proofs.Common.{◌≡◌, ℕ, ◌+◌, ◌≤◌, List, ◌++◌, length, map, sym, ap, subst, ◌∙◌, arith}
use Rattle.input_escapes.specs.ConditionFronts.{HalvesTaken}
use Rattle.input_escapes.specs.OpenEscape.{OpenEscape}
use Rattle.input_model.specs.Input.{Ahead, ByteAhead, Input, bytes_ahead, ends_ahead}
use Rattle.input_source.specs.Tape.{Tape}
use Rattle.input_model.specs.Unread.{Unread, IsWithin}
use Rattle.roff_scan.specs.Unread.Calls.{OfTexts, TakesPushed}
use Rattle.roff_scan.specs.Unread.Runs.{TakesRun, with_stage_of}
use Rattle.roff_scan.specs.declared.run_kind.RunKind.TheVariants.{Condition}
use Rattle.roff_scan.proofs.RunKinds.{any_byte, no_bound}
use Rattle.input_model.proofs.Counts.{bytes_ahead-bytes, ends_ahead-bytes}
use Rattle.roff_scan.proofs.PassingAhead.{behind_bytes, bytes_taken-is}
use Rattle.input_ahead.proofs.GivenFronts.{HalvesTaken-held}

module _ {E : Type 0} where
  -- the input behind bytes that were given, where this is half read
  abbrev pub behind_given : ℕ → List (Ahead E) → List OpenEscape → Unread E → Unread E
  behind_given count behind half u = record u { input = record (behind_bytes count behind u.input) { escapes = half } }

  module _ (u : Unread E) (half : List OpenEscape) (bytes : List ℕ) (behind : List (Ahead E)) (front : u.input.ahead ≡ map ByteAhead bytes ++ behind)
      (takes : HalvesTaken u.input.escapes bytes half) where
    -- no count is above its limit behind as many as there are, and behind so many
    given-within : u.input.charge + length bytes ≤ u.limits.bytes → IsWithin u → IsWithin (behind_given (length bytes) behind half u)
    given-within allowed within =
        let fewer = ap bytes_ahead front ∙ bytes_ahead-bytes bytes behind in
        let ends = ap ends_ahead front ∙ ends_ahead-bytes bytes behind in
        record {
          charge = allowed;
          newlines = omega (arith, within.newlines);
          pushed = omega (arith, fewer, HalvesTaken-held u.input.escapes half bytes takes, within.pushed);
          depth = omega (arith, ends, within.depth);
          results = within.results;
          stored = within.stored;
          names = within.names;
          making = within.making;
        }

    pub IsWithin-given : (count : ℕ) → length bytes ≡ count → u.input.charge + count ≤ u.limits.bytes → IsWithin u → IsWithin (behind_given count behind half u)
    IsWithin-given count is allowed within =
        subst (λ (n : ℕ). IsWithin (behind_given n behind half u)) is (given-within (omega (arith, is, allowed)) within)

  -- whatever the source may give, it wasn't asked
  pub pushed_run : (gives : Tape → Type 0) (ready : List ℕ) (count : ℕ) (before after : Unread E) → TakesPushed count before after
      → TakesRun Condition gives gives ready count before after
  pushed_run gives ready count before after took =
      let i : Input E = before.input in
      record {
        bytes = took.bytes;
        length_is = took.length_is;
        are_of = any_byte took.bytes;
        fewer = no_bound took.bytes i.arguments;
        passes = OfTexts (record {
          behind = took.behind;
          in_front = took.in_front;
          stays = record { before = λ t may. may; after = λ t may. may };
          input =
              ap (λ (u : Unread E). record u { input = with_stage_of i u.input }) took.input
              ∙ ap (λ (j : Input E). record before { input = j }) (sym (bytes_taken-is took.bytes took.behind i took.in_front));
          within = took.within;
        });
        arguments = ap (λ (u : Unread E). u.input.arguments) took.input;
        half_read = took.taken;
        texts = ap (λ (u : Unread E). u.input.open_texts) took.input;
        whole = λ goes. absurd (cc);
      }
