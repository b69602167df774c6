-- What may be asked of a layout (manual, section 8).
use Rattle.std.specs.Prelude.{ℕ, ◌-◌, Bool, not, ◌||◌, List, [], ◌∷◌, Option, Some, None, if◌then◌else◌, ◌==◌}
use Rattle.roff_num.specs.declared.short_name.ShortName.{ShortName}
use Rattle.page_model.specs.Words.{is_empty}
use Rattle.page_model.specs.Layout.{Diversion, Layout, page_place}
use Rattle.page_model.specs.Stops.{Target, page_target, innermost}

-- the place on the page, in lines; none before the first page (the register `nl`)
abbrev pub nl : Layout → Option ℕ
nl L = if L.begun == 0 then None else Some (page_place L)

-- where text goes: the innermost open diversion, or the page
abbrev pub text_target : Layout → Target
text_target L = innermost L.diversions (page_target L)

-- the place there, in lines
abbrev pub place_now : Layout → ℕ
place_now L = (text_target L).place

-- how far its next stop is, in lines; none in a diversion whose trap doesn't lie ahead (the register `.t`)
abbrev pub way_from : ℕ → Option ℕ → Option ℕ
way_from place None = None
way_from place (Some stop) = Some (stop - place)

abbrev pub way_to_trap : Layout → Option ℕ
way_to_trap L = way_from (text_target L).place (text_target L).stop

-- the name of the innermost of some open diversions
abbrev pub name_of_first : List Diversion → Option ShortName
name_of_first [] = None
name_of_first (d ∷ ds) = Some d.name

-- the name of the innermost open diversion (the register `.z`)
abbrev pub diversion_name : Layout → Option ShortName
diversion_name L = name_of_first L.diversions

-- whether a diversion is open
abbrev pub is_diverting : Layout → Bool
is_diverting L = not (is_empty L.diversions)

-- whether text may be taken without a page beginning: one was begun, or a diversion is open
abbrev pub takes_text : Layout → Bool
takes_text L = not (L.begun == 0) || is_diverting L
