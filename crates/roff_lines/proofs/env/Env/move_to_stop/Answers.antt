use Rattle.std.proofs.Common.{◌≡◌, Some, false, true, refl, rules}
use Rattle.page_model.specs.TabStops.{way_to_next}
use Rattle.page_model.specs.declared.stop.StopKind.TheVariants.{Right, Centred}
use Rattle.page_model.specs.declared.glyph.Glyph.TheVariants.{Blanks}
use Rattle.roff_lines.specs.Env.Kept.{Kept, length_with, with_field_opened, kept_with_glyph}
use Rattle.roff_lines.specs.Env.Stands.{StandsBehindTab}
use Rattle.roff_lines.proofs.TabsTold.{StandsBehindTab-opened, ok_in_room}
use Rattle.roff_lines.proofs.env.Env.move_to_stop.Goals as goal

pub returns-in-Right-clause-stands : goal.returns-in-Right-clause-stands
returns-in-Right-clause-stands c =
    let old : Kept = c.args.self.now in
    let new : Kept = c.open_field.new.self in
    let columns = c.in-Some.way.columns in
    let way : way_to_next old.stops old.place ≡ Some (record { columns = columns; kind = Right }) = search rules in
    ok_in_room c.open_field.result (new ≡ with_field_opened columns false (kept_with_glyph (Blanks 0) old)) (StandsBehindTab old new)
    old.cap (length_with (Blanks 0) old) c.open_field.ensures.limit c.open_field.ensures.kept
    (λ room is. StandsBehindTab-opened old new columns Right false (λ h. refl) way is room)

pub returns-in-Centred-clause-stands : goal.returns-in-Centred-clause-stands
returns-in-Centred-clause-stands c =
    let old : Kept = c.args.self.now in
    let new : Kept = c.open_field-in-Centred.new.self in
    let columns = c.in-Some.way.columns in
    let way : way_to_next old.stops old.place ≡ Some (record { columns = columns; kind = Centred }) = search rules in
    ok_in_room c.open_field-in-Centred.result (new ≡ with_field_opened columns true (kept_with_glyph (Blanks 0) old)) (StandsBehindTab old new)
    old.cap (length_with (Blanks 0) old) c.open_field-in-Centred.ensures.limit c.open_field-in-Centred.ensures.kept
    (λ room is. StandsBehindTab-opened old new columns Centred true (λ h. refl) way is room)
