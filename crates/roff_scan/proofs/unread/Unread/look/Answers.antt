use Rattle.std.proofs.Common.{Some, refl, sym, ap, ◌∙◌}
use Rattle.input_source.specs.Tape.{Gives, Ends, OneByte, OneNote, Ended, Failed, Stopped}
use Rattle.input_model.specs.declared.looked.Looked.TheVariants.{Byte}
use Rattle.input_model.specs.Unread.{Unread}
use Rattle.input_model.specs.Shown.{SeesByte}
use Rattle.roff_scan.proofs.Asking.{looks_ahead, looks_looked, looks_asked, looks_closed, no_note_ahead, no_ending_ahead}
use Rattle.roff_scan.proofs.unread.Unread.look.Goals as goal

pub returns-in-Some-clause-looks : goal.returns-in-Some-clause-looks
returns-in-Some-clause-looks g c =
    looks_ahead (g.S.ByteSource.gives c.args.source.now) _ _ c.self.view_is _ (sym c.in-Some.ensures)

pub returns-in-Some-clause-note : goal.returns-in-Some-clause-note
returns-in-Some-clause-note g c = λ m note. absurd (no_note_ahead c.self.inside.input_ahead.ahead m (sym c.in-Some.ensures ∙ ap (λ s. Some s) note))

pub returns-in-Some-clause-fault : goal.returns-in-Some-clause-fault
returns-in-Some-clause-fault g c = λ fault. absurd (no_ending_ahead c.self.inside.input_ahead.ahead Failed (sym c.in-Some.ensures ∙ ap (λ s. Some s) fault))

pub returns-in-Byte-clause-looks : goal.returns-in-Byte-clause-looks
returns-in-Byte-clause-looks g c =
    looks_looked (g.S.ByteSource.gives c.args.source.now) _ _ c.self.view_is c.in-Byte.byte (sym c.in_default.ensures) c.in-Byte.is

pub returns-in-Closed-clause-looks : goal.returns-in-Closed-clause-looks
returns-in-Closed-clause-looks g c =
    looks_closed (g.S.ByteSource.gives c.args.source.now) _ _ c.self.view_is _ (sym c.in_default.ensures) c.in-Closed.is

pub returns-in-Byte-next_byte-clause-looks : goal.returns-in-Byte-next_byte-clause-looks
returns-in-Byte-next_byte-clause-looks g c =
    looks_asked (g.S.ByteSource.gives c.args.source.now) _ _ c.self.view_is _ _ (g.S.ByteSource.gives c.next_byte.new.self) (Gives (OneByte c.in-Byte-next_byte.byte))
    (sym c.in_default.ensures) c.in-Nothing.is c.in-Byte-next_byte.ensures.gives
    (ap (λ (u : Unread _). (SeesByte c.in-Byte-next_byte.byte, record u { looked = Byte c.in-Byte-next_byte.byte })) c.self.view_is)

pub returns-in-Note-clause-looks : goal.returns-in-Note-clause-looks
returns-in-Note-clause-looks g c =
    looks_asked (g.S.ByteSource.gives c.args.source.now) _ _ c.self.view_is _ _ (g.S.ByteSource.gives c.next_byte.new.self) (Gives (OneNote c.in-Note.note.items))
    (sym c.in_default.ensures) c.in-Nothing.is c.in-Note.ensures.gives refl

pub returns-in-End-clause-looks : goal.returns-in-End-clause-looks
returns-in-End-clause-looks g c =
    looks_asked (g.S.ByteSource.gives c.args.source.now) _ _ c.self.view_is _ _ (g.S.ByteSource.gives c.next_byte.new.self) (Ends Ended)
    (sym c.in_default.ensures) c.in-Nothing.is c.in-End.ensures.gives refl

pub returns-in-Fault-clause-looks : goal.returns-in-Fault-clause-looks
returns-in-Fault-clause-looks g c =
    looks_asked (g.S.ByteSource.gives c.args.source.now) _ _ c.self.view_is _ _ (g.S.ByteSource.gives c.next_byte.new.self) (Ends Failed)
    (sym c.in_default.ensures) c.in-Nothing.is c.in-Fault.ensures.gives refl

pub returns-in-Stop-clause-looks : goal.returns-in-Stop-clause-looks
returns-in-Stop-clause-looks g c =
    looks_asked (g.S.ByteSource.gives c.args.source.now) _ _ c.self.view_is _ _ (g.S.ByteSource.gives c.next_byte.new.self) (Ends (Stopped c.in-Stop.limit))
    (sym c.in_default.ensures) c.in-Nothing.is c.in-Stop.ensures.gives refl
