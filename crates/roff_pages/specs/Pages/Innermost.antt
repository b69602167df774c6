-- What may be asked of the innermost open diversion beside its name alone.
use Rattle.std.specs.Prelude.{Bool, List, [], ◌∷◌, Option, Some, None}
use Rattle.roff_num.specs.declared.short_name.ShortName.{ShortName}
use Rattle.page_model.specs.Layout.{Diversion}

-- the name of the innermost of open diversions, and whether its text is to be appended to what the name has
abbrev pub name_and_way : List Diversion → Option (ShortName × Bool)
name_and_way [] = None
name_and_way (d ∷ ds) = Some (d.name, d.appends)
