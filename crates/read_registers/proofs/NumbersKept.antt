-- The number registers behind a change, whatever stands beside them.
use Rattle.std.proofs.Common.{◌≡◌, Bool, false, [], ◌∷◌, Option, refl, sym, ap, ◌∙◌, if◌then◌else◌}
use Rattle.roff_num.specs.declared.format.Format.{Format}
use Rattle.roff_num.specs.declared.num.Num.{Num}
use Rattle.roff_num.specs.declared.short_name.ShortName.{ShortName}
use Rattle.roff_store.specs.Registers.{Registers}
use Rattle.run_model.specs.Registers.{AllRegisters, Change, Known, known_behind}
use Rattle.run_model.specs.Registers.Capped.{Capped, after_change, is_past_cap, with_change}
use Rattle.read_registers.specs.Lasting.{NumbersKept, TitlesKept, capped_of}
use Rattle.read_registers.specs.Registers.Coded.{AreNumbersOf}

-- a change past which no more names have a register than may is made
pub after-within : (change : Change) (r : Capped) → is_past_cap (with_change change r) ≡ false → with_change change r ≡ after_change change r
after-within change r few = sym (ap (λ (past : Bool). if past then r else with_change change r) few)

-- registers with what they have of numbers
with_own : (rs : AllRegisters) (named : Registers) (increment : Num) (format : Format)
    → named ≡ rs.named → increment ≡ rs.page_increment → format ≡ rs.page_format
    → record rs { named = named; page_increment = increment; page_format = format } ≡ rs
with_own rs named increment format a b c = rw (a, b, c) refl

-- numbers that are known, and were changed, are known where the change was made
pub AreNumbersOf-changed : (change : Change) (k : Known) (old new : NumbersKept)
    → ((t : TitlesKept) (last : Option ShortName) → capped_of new t last ≡ with_change change (capped_of old t last))
    → AreNumbersOf k old → AreNumbersOf (known_behind (change ∷ []) k) new
AreNumbersOf-changed change k old new changed known =
    let rs = k.registers in
    let t : TitlesKept = record { page_character = rs.page_character; title = rs.title; kept_title = rs.kept_title; line = 0 } in
    let made : capped_of new t rs.last_macro ≡ with_change change (record { all = rs; cap = old.cap; line = 0 }) =
    changed t rs.last_macro
    ∙ ap (λ (all : AllRegisters). (let r : Capped = record { all = all; cap = old.cap; line = 0 } in with_change change r))
    (with_own rs old.named old.page_increment old.page_format known.named known.page_increment known.page_format) in
    record {
      named = ap (λ (r : Capped). r.all.named) made;
      page_increment = ap (λ (r : Capped). r.all.page_increment) made;
      page_format = ap (λ (r : Capped). r.all.page_format) made;
    }

-- the numbers of all that is known are known
pub AreNumbersOf-shown : (k : Known) (n : NumbersKept) (t : TitlesKept) (last : Option ShortName) (r : Capped)
    → capped_of n t last ≡ r → k.registers ≡ r.all → AreNumbersOf k n
AreNumbersOf-shown k n t last r shown known =
    let all : k.registers ≡ (capped_of n t last).all = known ∙ ap (λ (s : Capped). s.all) (sym shown) in
    record {
      named = ap (λ (rs : AllRegisters). rs.named) (sym all);
      page_increment = ap (λ (rs : AllRegisters). rs.page_increment) (sym all);
      page_format = ap (λ (rs : AllRegisters). rs.page_format) (sym all);
    }
