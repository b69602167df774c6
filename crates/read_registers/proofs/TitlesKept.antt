-- The titles that are kept, as those of all registers.
use Rattle.std.proofs.Common.{◌≡◌, ℕ, Bool, true, false, List, Option, refl, if◌then◌else◌}
use Rattle.roff_num.specs.declared.short_name.ShortName.{ShortName}
use Rattle.run_model.specs.Registers.{TitleBegins}
use Rattle.run_model.specs.Registers.Capped.{title_after}
use Rattle.run_model.specs.TitleTexts.{title_begun}
use Rattle.run_model.specs.Titles.{title_of}
use Rattle.run_model.specs.declared.title.WhichTitle.{WhichTitle}
use Rattle.run_model.specs.declared.title.WhichTitle.TheVariants.{Read, Kept}
use Rattle.read_registers.specs.Lasting.{NumbersKept, TitlesKept, capped_of, is_long, title_in, titles_with}

-- a choice of titles, as one of registers
capped_of-cond : (b : Bool) (n : NumbersKept) (t u : TitlesKept) (last : Option ShortName)
    → capped_of n (if b then t else u) last ≡ (if b then capped_of n t last else capped_of n u last)
capped_of-cond true n t u last = refl
capped_of-cond false n t u last = refl

-- a title begins, as the definition has it
pub capped_of-begun : (bytes : List ℕ) (n : NumbersKept) (t : TitlesKept) (last : Option ShortName)
    → capped_of n (titles_with (title_begun bytes) t) last ≡ title_after (TitleBegins bytes) (capped_of n t last)
capped_of-begun bytes n t last = capped_of-cond (is_long (title_begun bytes) t) n t (record t { title = title_begun bytes }) last

-- the text of a title is the definition's
pub title_in-of : (which : WhichTitle) (n : NumbersKept) (t : TitlesKept) (last : Option ShortName)
    → title_in t which ≡ title_of (capped_of n t last).all which
title_in-of Read n t last = refl
title_in-of Kept n t last = refl
