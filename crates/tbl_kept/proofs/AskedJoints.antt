-- The joint of a line that was asked last.
use Rattle.std.proofs.Common.{◌≡◌, ℕ, ◌-◌, ◌≤◌, List, [], ◌∷◌, ◌++◌, length, drop, refl, sym, ap, ◌∙◌, arith, nat_lt, length-append, if◌then◌else◌}
use Rattle.std.proofs.lemmas.List.{drop-append-le}
use Rattle.tbl_kept.specs.Joined.{line_at}
use Rattle.tbl_kept.specs.TableText.{IsAsked, ends_of}
use Rattle.tbl_kept.specs.declared.table_text.Joint.{Joint}
use Rattle.tbl_kept.proofs.TextBlocks.{ends_of-append}

-- where a line is settled none is passed
pub asked-none : (joints : List Joint) (start count : ℕ) → count ≤ length joints → IsAsked joints start count 0 count
asked-none joints start count within = record { within = within; passed = record { line = λ later number behind. refl } }

-- the lines of more joints
line_at-append : (ends more : List (ℕ × ℕ)) (place number : ℕ) → line_at (ends ++ more) place number ≡ line_at ends place (line_at more place number)
line_at-append [] more place number = refl
line_at-append (end ∷ ends) more place number =
    ap (λ (line : ℕ). if nat_lt place end.0 then end.1 else line) (line_at-append ends more place number)

line-joint : (start : ℕ) (joints : List Joint) (joint : Joint) (place number : ℕ)
    → line_at (ends_of start (joints ++ joint ∷ [])) place number
    ≡ line_at (ends_of start joints) place (line_at ((joint.place - start, joint.line) ∷ []) place number)
line-joint start joints joint place number =
    ap (λ (ends : List (ℕ × ℕ)). line_at ends place number) (ends_of-append start joints joint)
    ∙ line_at-append (ends_of start joints) ((joint.place - start, joint.line) ∷ []) place number

-- one joint more
pub asked-more : (joints : List Joint) (start open_joints asked_place asked_joint : ℕ) (joint : Joint) → open_joints ≤ length joints
    → IsAsked joints start open_joints asked_place asked_joint → IsAsked (joints ++ joint ∷ []) start open_joints asked_place asked_joint
asked-more joints start open_joints asked_place asked_joint joint opened asked = record {
  within = omega (arith, asked.within, length-append joints (joint ∷ []));
  passed = record {
    line = λ later number behind.
        ap (λ (js : List Joint). line_at (ends_of start js) later number) (drop-append-le asked_joint joints (joint ∷ []) asked.within)
        ∙ line-joint start (drop asked_joint joints) joint later number
        ∙ asked.passed.line later (line_at ((joint.place - start, joint.line) ∷ []) later number) behind
        ∙ sym (line-joint start (drop open_joints joints) joint later number)
        ∙ ap (λ (js : List Joint). line_at (ends_of start js) later number) (sym (drop-append-le open_joints joints (joint ∷ []) opened));
  };
}
