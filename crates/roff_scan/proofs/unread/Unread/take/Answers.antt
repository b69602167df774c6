use Rattle.std.proofs.Common.{refl, sym, ◌∙◌}
use Rattle.input_source.specs.Tape.{Gives, Ends, OneByte, OneNote, Ended, Failed, Stopped}
use Rattle.roff_scan.proofs.Asking.{takes_ahead, takes_looked, takes_asked, takes_closed}
use Rattle.roff_scan.proofs.unread.Unread.take.Goals as goal

pub returns-then-not-is_empty-clause-takes : goal.returns-then-not-is_empty-clause-takes
returns-then-not-is_empty-clause-takes g c =
    takes_ahead (g.S.ByteSource.gives c.args.source.now) _ _ _ c.self.view_is _ (sym c.is_empty.ensures ∙ c.if-not-is_empty.true) c.take_ahead.ensures.takes

pub returns-in-Byte-clause-takes : goal.returns-in-Byte-clause-takes
returns-in-Byte-clause-takes g c =
    takes_looked (g.S.ByteSource.gives c.args.source.now) _ _ _ c.self.view_is _ c.in-Byte.byte (sym c.is_empty.ensures ∙ c.if-not-is_empty.false) c.in-Byte.is c.take_byte-in-Byte.ensures.takes

pub returns-in-Closed-clause-takes : goal.returns-in-Closed-clause-takes
returns-in-Closed-clause-takes g c =
    takes_closed (g.S.ByteSource.gives c.args.source.now) _ _ _ c.self.view_is _ _ (sym c.is_empty.ensures ∙ c.if-not-is_empty.false) c.in-Closed.is refl

pub returns-in-Byte-next_byte-clause-takes : goal.returns-in-Byte-next_byte-clause-takes
returns-in-Byte-next_byte-clause-takes g c =
    takes_asked (g.S.ByteSource.gives c.args.source.now) _ _ _ c.self.view_is _ (g.S.ByteSource.gives c.next_byte.new.self) (Gives (OneByte c.in-Byte-next_byte.byte))
    (sym c.is_empty.ensures ∙ c.if-not-is_empty.false) c.in-Nothing.is c.in-Byte-next_byte.ensures.gives c.take_byte.ensures.takes

pub returns-in-Note-clause-takes : goal.returns-in-Note-clause-takes
returns-in-Note-clause-takes g c =
    takes_asked (g.S.ByteSource.gives c.args.source.now) _ _ _ c.self.view_is _ (g.S.ByteSource.gives c.next_byte.new.self) (Gives (OneNote c.in-Note.note.items))
    (sym c.is_empty.ensures ∙ c.if-not-is_empty.false) c.in-Nothing.is c.in-Note.ensures.gives refl

pub returns-in-End-clause-takes : goal.returns-in-End-clause-takes
returns-in-End-clause-takes g c =
    takes_asked (g.S.ByteSource.gives c.args.source.now) _ _ _ c.self.view_is _ (g.S.ByteSource.gives c.next_byte.new.self) (Ends Ended)
    (sym c.is_empty.ensures ∙ c.if-not-is_empty.false) c.in-Nothing.is c.in-End.ensures.gives refl

pub returns-in-Fault-clause-takes : goal.returns-in-Fault-clause-takes
returns-in-Fault-clause-takes g c =
    takes_asked (g.S.ByteSource.gives c.args.source.now) _ _ _ c.self.view_is _ (g.S.ByteSource.gives c.next_byte.new.self) (Ends Failed)
    (sym c.is_empty.ensures ∙ c.if-not-is_empty.false) c.in-Nothing.is c.in-Fault.ensures.gives refl

pub returns-in-Stop-clause-takes : goal.returns-in-Stop-clause-takes
returns-in-Stop-clause-takes g c =
    takes_asked (g.S.ByteSource.gives c.args.source.now) _ _ _ c.self.view_is _ (g.S.ByteSource.gives c.next_byte.new.self) (Ends (Stopped c.in-Stop.limit))
    (sym c.is_empty.ensures ∙ c.if-not-is_empty.false) c.in-Nothing.is c.in-Stop.ensures.gives refl
