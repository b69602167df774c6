-- Titles where events are put back, and where registers are given.
use Rattle.std.proofs.Common.{◌≡◌, ◌≤◌, ℕ, Bool, true, false, List, [], ◌∷◌, refl, arith, if◌then◌else◌}
use Rattle.roff_num.specs.declared.limits.Limits.{Limits}
use Rattle.roff_num.specs.declared.num.Num.{Num}
use Rattle.run_model.specs.PageEvents.{PageEvent}
use Rattle.run_model.specs.Registers.{AllRegisters, is_page, is_read_only}
use Rattle.run_model.specs.Starts.{with_given}
use Rattle.run_model.specs.TitleTexts.{TitleText, title_length}
use Rattle.run_model.specs.Titles.{keeping, with_title_kept}
use Rattle.run_model.specs.declared.event.PageEvent.TheVariants.{Text, Page, Interrupt, Environment, Back, InputTrap as SetsTrap, Title}
use Rattle.run_model.specs.declared.title.WhichTitle.TheVariants.{Read, Kept}

-- events that are put back leave the names of registers, and a title within its limit
pub named-keeping : (events : List PageEvent) (rs : AllRegisters) → (keeping events rs).named ≡ rs.named
named-keeping [] rs = refl
named-keeping (Title Read ∷ events) rs = named-keeping events (with_title_kept rs)
named-keeping (Title Kept ∷ events) rs = named-keeping events rs
named-keeping (Text e ∷ events) rs = named-keeping events rs
named-keeping (Page e ∷ events) rs = named-keeping events rs
named-keeping (Interrupt untold ∷ events) rs = named-keeping events rs
named-keeping (Environment number ∷ events) rs = named-keeping events rs
named-keeping (Back ∷ events) rs = named-keeping events rs
named-keeping (SetsTrap trap ∷ events) rs = named-keeping events rs

pub title-keeping : (l : Limits) (events : List PageEvent) (rs : AllRegisters) → title_length rs.title ≤ l.line
    → title_length (keeping events rs).title ≤ l.line
title-keeping l [] rs within = within
title-keeping l (Title Read ∷ events) rs within = title-keeping l events (with_title_kept rs) (omega arith)
title-keeping l (Title Kept ∷ events) rs within = title-keeping l events rs within
title-keeping l (Text e ∷ events) rs within = title-keeping l events rs within
title-keeping l (Page e ∷ events) rs within = title-keeping l events rs within
title-keeping l (Interrupt untold ∷ events) rs within = title-keeping l events rs within
title-keeping l (Environment number ∷ events) rs within = title-keeping l events rs within
title-keeping l (Back ∷ events) rs within = title-keeping l events rs within
title-keeping l (SetsTrap trap ∷ events) rs within = title-keeping l events rs within

-- a register that is set changes no title
pub title-chosen : (title : AllRegisters → TitleText) (read_only of_page : Bool) (paged others rs : AllRegisters)
    → title paged ≡ title rs → title others ≡ title rs
    → title (if read_only then rs else if of_page then paged else others) ≡ title rs
title-chosen title true of_page paged others rs first second = refl
title-chosen title false true paged others rs first second = first
title-chosen title false false paged others rs first second = second

pub title-given : (given : ℕ × Num) (rs : AllRegisters) → (with_given given rs).title ≡ rs.title
title-given given rs =
    let name : List ℕ = given.0 ∷ [] in title-chosen (λ r. r.title) (is_read_only name) (is_page name) _ _ rs refl refl
