use Rattle.std.proofs.Common.{rules, ◌≡◌, ◌-◌, suc, ◌++◌, List, [], ◌∷◌, get_or, take, drop, replicate, sym, ap, ◌∙◌, arith, ℕ, slice_range}
use Rattle.tbl_kept.specs.TableNotes.{KeptNotes}
use Rattle.tbl_options.specs.Notes.{cut_note}
use Rattle.tbl_options.specs.declared.notes.KeptNote.{KeptNote}
use Rattle.tbl_format.proofs.Slices.{slice_range-more}
use Rattle.tbl_kept.proofs.table_notes.TableNotes.next.Goals as goal

pub returns-then-self : goal.returns-then-self
returns-then-self c =
    let a = c.self.inside in
    let note : KeptNote = c.index-note.result.now in
    let is : note ≡ get_or a.notes.items a.next note = search rules in
    rw (← c.self.view_is)
    (ap (λ (rest : List KeptNote).
    let k : KeptNotes = record { notes = a.notes.items; to_tell = rest ++ replicate a.cut (cut_note a.cut_line); note_room = a.note_room } in k)
    (slice_range-more a.notes.items a.next a.end note c.if-self.true c.self.invariant.within is))

pub returns : goal.returns
returns c =
    let a = c.self.inside in
    let cut : KeptNote = cut_note a.cut_line in
    let with : List KeptNote → KeptNotes = λ told. record { notes = a.notes.items; to_tell = told; note_room = a.note_room } in
    let empty : a.end - a.next ≡ 0 = omega (arith, c.self.invariant.order, c.if-self.false) in
    let none : slice_range a.notes.items a.next a.end ≡ [] = ap (λ (n : ℕ). take n (drop a.next a.notes.items)) empty in
    let some : a.cut ≡ suc (a.cut - 1) = omega (arith, c.if-self-eq0.false) in
    let all : replicate a.cut cut ≡ cut ∷ replicate (a.cut - 1) cut = ap (λ (n : ℕ). replicate n cut) some in
    rw (← c.self.view_is)
    (ap (λ (told : List KeptNote). with (told ++ replicate a.cut cut)) none
    ∙ ap with all
    ∙ ap (λ (told : List KeptNote). with (cut ∷ (told ++ replicate (a.cut - 1) cut))) (sym none))
