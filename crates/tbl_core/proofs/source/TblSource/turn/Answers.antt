use Rattle.std.proofs.Common.{arith, rules, Some, None, refl, sym, ap, ◌∙◌}
use Rattle.std.proofs.lemmas.Grind.{common_steps}
use Rattle.std.proofs.lemmas.Option.{MatchOption-at_none}
use Rattle.input_source.specs.declared.source.Taken.TheVariants.{End, Fault, Stop}
use Rattle.input_source.specs.Tape.{OneByte, Ended, Failed, Stopped}
use Rattle.tbl_core.specs.Source.{WasAsked}
use Rattle.tbl_core.specs.Tables.{TablesState, stopped_by}
use Rattle.tbl_core.specs.Machine.{Step}
use Rattle.tbl_core.specs.Yields.{behind_step}
use Rattle.tbl_core.proofs.Answering.{byte_given, byte_takes, ending_takes, length_given, limits_given, may_takes, takes_note}
use Rattle.tbl_core.proofs.NotesLeft.{few_behind_byte, few_behind_ending, few_given, last_note_given, notes_given}
use Rattle.tbl_core.proofs.Quiet.{byte_reads, fewer_behind, stop_is_fault}
use Rattle.tbl_core.proofs.Turning.{byte_goes_on, ending_next, first_given, may_be_given}
use Rattle.tbl_core.proofs.source.TblSource.turn.Goals as goal

pub invariant_of-self : goal.invariant_of-self
invariant_of-self g c = record { alive = WasAsked c.next_byte.ensures.gives.some c.next_byte.ensures.gives.some_given; idles = λ is. c.in-Some.ensures.alone; quiet = λ is. cc }

pub invariant_of-self-in-None : goal.invariant_of-self-in-None
invariant_of-self-in-None g c = record { alive = WasAsked c.next_byte.ensures.gives.some c.next_byte.ensures.gives.some_given; idles = λ is. cc; quiet = λ is. cc }

pub invariant_of-self-in-Note : goal.invariant_of-self-in-Note
invariant_of-self-in-Note g c = record { alive = WasAsked c.next_byte.ensures.gives.some c.next_byte.ensures.gives.some_given; idles = λ is. cc; quiet = λ is. cc }

pub invariant_of-self-in-End : goal.invariant_of-self-in-End
invariant_of-self-in-End g c = record { alive = WasAsked c.next_byte.ensures.gives.some c.next_byte.ensures.gives.some_given; idles = λ is. cc; quiet = λ is. cc }

pub invariant_of-self-in-Fault : goal.invariant_of-self-in-Fault
invariant_of-self-in-Fault g c = record { alive = WasAsked c.next_byte.ensures.gives.some c.next_byte.ensures.gives.some_given; idles = λ is. cc; quiet = λ is. cc }

pub invariant_of-self-in-Stop : goal.invariant_of-self-in-Stop
invariant_of-self-in-Stop g c = record { alive = WasAsked c.next_byte.ensures.gives.some c.next_byte.ensures.gives.some_given; idles = λ is. cc; quiet = λ is. cc }

pub returns-in-Some-clause-given : goal.returns-in-Some-clause-given
returns-in-Some-clause-given g c =
    let none = ap (λ s. s.tables.at.pending) c.self.view_is ∙ c.requires.pending in
    let reads = ap (λ s. stopped_by s.tables.at.standing) c.self.view_is ∙ c.requires.reads in
    let taken = c.in-Byte.ensures.gives in
    let goes_on = byte_goes_on c.self.inside.tables c.byte.new.self c.in-Byte.byte _ _ (Some c.in-Some.byte) none reads taken c.in-Some.ensures.out c.byte.ensures.behind c.byte.ensures.limits c.byte.ensures.line_length in
    rw (← c.self.view_is) (first_given _ _ taken.some taken.some_given c.byte.new.self.limits c.byte.new.self.line_length (OneByte c.in-Some.byte) c.byte.new.self.at goes_on)

pub returns-in-Some-clause-notes : goal.returns-in-Some-clause-notes
returns-in-Some-clause-notes g c =
    rw (← c.self.view_is) (few_behind_byte c.self.inside.tables c.byte.new.self c.in-Byte.byte (Some c.in-Some.byte) c.in-Some.ensures.out c.byte.ensures.behind c.byte.ensures.limits)

pub returns-in-Some-clause-takes : goal.returns-in-Some-clause-takes
returns-in-Some-clause-takes g c =
    let none = ap (λ s. s.tables.at.pending) c.self.view_is ∙ c.requires.pending in
    let reads = ap (λ s. stopped_by s.tables.at.standing) c.self.view_is ∙ c.requires.reads in
    let t = c.self.inside.tables in
    let taken = c.in-Byte.ensures.gives in
    let on = byte_takes t c.byte.new.self c.in-Byte.byte _ _ (Some c.in-Some.byte) none reads taken c.in-Some.ensures.out c.byte.ensures.behind in
    rw (← c.self.view_is) (byte_given _ _ taken.some taken.some_given t.limits t.line_length t.at c.byte.new.self.at (OneByte c.in-Some.byte) on)

pub returns-in-None : goal.returns-in-None
returns-in-None g c =
    let none = ap (λ s. s.tables.at.pending) c.self.view_is ∙ c.requires.pending in
    let reads = ap (λ s. stopped_by s.tables.at.standing) c.self.view_is ∙ c.requires.reads in
    let t = c.self.inside.tables in
    let new = c.byte.new.self in
    let taken = c.in-Byte.ensures.gives in
    let out = c.in-None.ensures.out in
    let behind = c.byte.ensures in
    let next = c.next.ensures.next in
    let goes_on = byte_goes_on t new c.in-Byte.byte _ _ None none reads taken out behind.behind behind.limits behind.line_length in
    let on = byte_takes t new c.in-Byte.byte _ _ None none reads taken out behind.behind in
    let few = few_behind_byte t new c.in-Byte.byte None out behind.behind behind.limits in
    rw (← c.self.view_is)
    (record {
      given = may_be_given _ _ taken.some taken.some_given new c.next.new.self c.next.result next goes_on;
      silent = λ is. rw (MatchOption-at_none _ _ is next).1 goes_on;
      takes = may_takes _ _ taken.some taken.some_given t.limits t.line_length t.at new c.next.new.self c.next.result next on;
      takes_on = λ is. rw (MatchOption-at_none _ _ is next).1 on;
      limits = limits_given new c.next.new.self c.next.result next ∙ behind.limits;
      line_length = length_given new c.next.new.self c.next.result next ∙ behind.line_length;
      pending = λ is. let kept = MatchOption-at_none _ _ is next in rw kept.1 kept.0;
      reads = λ is.
          let kept = MatchOption-at_none _ _ is next in
          rw (kept.1, behind.behind) (byte_reads t.limits t.line_length c.in-Byte.byte t.at.standing reads (sym out ∙ kept.0));
      falls = λ is.
          let kept = MatchOption-at_none _ _ is next in
          let fewer = fewer_behind t.limits t.line_length c.in-Byte.byte t.at.standing reads (sym out ∙ kept.0) in
          rw (kept.1, behind.limits, behind.behind) (omega (arith, fewer, c.next_byte.ensures.notes));
      notes = omega (arith, few, few_given new c.next.new.self c.next.result next);
      note = notes_given new c.next.new.self c.next.result _ few next;
      failures = c.next_byte.ensures.failures;
      fault = first_of (search rules, grind (arith, common_steps));
    })

pub returns-in-Note-clause-takes_on : goal.returns-in-Note-clause-takes_on
returns-in-Note-clause-takes_on g c = λ is.
    let none = ap (λ s. s.tables.at.pending) c.self.view_is ∙ c.requires.pending in
    let reads = ap (λ s. stopped_by s.tables.at.standing) c.self.view_is ∙ c.requires.reads in
    let t = c.self.inside.tables in
    rw (← c.self.view_is) (takes_note t.limits t.line_length _ t.at.pending t.at.standing _ _ none reads c.in-Note.ensures.gives)

pub returns-in-End : goal.returns-in-End
returns-in-End g c =
    let none = ap (λ s. s.tables.at.pending) c.self.view_is ∙ c.requires.pending in
    let reads = ap (λ s. stopped_by s.tables.at.standing) c.self.view_is ∙ c.requires.reads in
    let t = c.self.inside.tables in
    let few = few_behind_ending t c.end.new.self Ended c.end.ensures in
    rw (← c.self.view_is, c.unwrap_or.ensures)
    (record {
      given = ending_next t.limits t.line_length Ended t.at.pending t.at.standing _ _ none reads c.in-End.ensures.gives c.end.new.self c.next-in-End.new.self c.next-in-End.result End c.end.ensures c.next-in-End.ensures.next refl;
      silent = λ nothing. cc;
      takes = ending_takes t.limits t.line_length Ended t.at.pending t.at.standing _ _ none reads c.in-End.ensures.gives c.end.new.self c.next-in-End.new.self c.next-in-End.result End c.end.ensures c.next-in-End.ensures.next refl;
      takes_on = λ nothing. cc;
      limits = limits_given c.end.new.self c.next-in-End.new.self c.next-in-End.result c.next-in-End.ensures.next ∙ ap (λ (t : TablesState). t.limits) c.end.ensures;
      line_length = length_given c.end.new.self c.next-in-End.new.self c.next-in-End.result c.next-in-End.ensures.next ∙ ap (λ (t : TablesState). t.line_length) c.end.ensures;
      pending = λ nothing. cc;
      reads = λ nothing. cc;
      falls = λ nothing. cc;
      notes = omega (arith, few, few_given c.end.new.self c.next-in-End.new.self c.next-in-End.result c.next-in-End.ensures.next);
      note = last_note_given c.end.new.self c.next-in-End.new.self c.next-in-End.result End Ended _ few c.next-in-End.ensures.next refl;
      failures = first_of (search rules, grind (arith, common_steps));
      fault = first_of (search rules, grind (arith, common_steps));
    })

pub returns-in-Fault : goal.returns-in-Fault
returns-in-Fault g c =
    let none = ap (λ s. s.tables.at.pending) c.self.view_is ∙ c.requires.pending in
    let reads = ap (λ s. stopped_by s.tables.at.standing) c.self.view_is ∙ c.requires.reads in
    let t = c.self.inside.tables in
    let few = few_behind_ending t c.cut.new.self Failed c.cut.ensures in
    rw (← c.self.view_is, c.unwrap_or-in-Fault.ensures)
    (record {
      given = ending_next t.limits t.line_length Failed t.at.pending t.at.standing _ _ none reads c.in-Fault.ensures.gives c.cut.new.self c.next-in-Fault.new.self c.next-in-Fault.result Fault c.cut.ensures c.next-in-Fault.ensures.next refl;
      silent = λ nothing. cc;
      takes = ending_takes t.limits t.line_length Failed t.at.pending t.at.standing _ _ none reads c.in-Fault.ensures.gives c.cut.new.self c.next-in-Fault.new.self c.next-in-Fault.result Fault c.cut.ensures c.next-in-Fault.ensures.next refl;
      takes_on = λ nothing. cc;
      limits = limits_given c.cut.new.self c.next-in-Fault.new.self c.next-in-Fault.result c.next-in-Fault.ensures.next ∙ ap (λ (t : TablesState). t.limits) c.cut.ensures;
      line_length = length_given c.cut.new.self c.next-in-Fault.new.self c.next-in-Fault.result c.next-in-Fault.ensures.next ∙ ap (λ (t : TablesState). t.line_length) c.cut.ensures;
      pending = λ nothing. cc;
      reads = λ nothing. cc;
      falls = λ nothing. cc;
      notes = omega (arith, few, few_given c.cut.new.self c.next-in-Fault.new.self c.next-in-Fault.result c.next-in-Fault.ensures.next);
      note = last_note_given c.cut.new.self c.next-in-Fault.new.self c.next-in-Fault.result Fault Failed _ few c.next-in-Fault.ensures.next refl;
      failures = first_of (search rules, grind (arith, common_steps));
      fault = first_of (search rules, grind (arith, common_steps));
    })

pub returns-in-Stop : goal.returns-in-Stop
returns-in-Stop g c =
    let none = ap (λ s. s.tables.at.pending) c.self.view_is ∙ c.requires.pending in
    let reads = ap (λ s. stopped_by s.tables.at.standing) c.self.view_is ∙ c.requires.reads in
    let t = c.self.inside.tables in
    let is = c.cut-in-Stop.ensures ∙ ap (λ (s : Step). record { limits = t.limits; line_length = t.line_length; at = behind_step s }) (sym (stop_is_fault t.limits t.line_length c.in-Stop.limit t.at.standing)) in
    let few = few_behind_ending t c.cut-in-Stop.new.self Failed c.cut-in-Stop.ensures in
    rw (← c.self.view_is, c.unwrap_or-in-Stop.ensures)
    (record {
      given = ending_next t.limits t.line_length (Stopped c.in-Stop.limit) t.at.pending t.at.standing _ _ none reads c.in-Stop.ensures.gives c.cut-in-Stop.new.self c.next-in-Stop.new.self c.next-in-Stop.result (Stop c.in-Stop.limit) is c.next-in-Stop.ensures.next refl;
      silent = λ nothing. cc;
      takes = ending_takes t.limits t.line_length (Stopped c.in-Stop.limit) t.at.pending t.at.standing _ _ none reads c.in-Stop.ensures.gives c.cut-in-Stop.new.self c.next-in-Stop.new.self c.next-in-Stop.result (Stop c.in-Stop.limit) is c.next-in-Stop.ensures.next refl;
      takes_on = λ nothing. cc;
      limits = limits_given c.cut-in-Stop.new.self c.next-in-Stop.new.self c.next-in-Stop.result c.next-in-Stop.ensures.next ∙ ap (λ (t : TablesState). t.limits) c.cut-in-Stop.ensures;
      line_length = length_given c.cut-in-Stop.new.self c.next-in-Stop.new.self c.next-in-Stop.result c.next-in-Stop.ensures.next ∙ ap (λ (t : TablesState). t.line_length) c.cut-in-Stop.ensures;
      pending = λ nothing. cc;
      reads = λ nothing. cc;
      falls = λ nothing. cc;
      notes = omega (arith, few, few_given c.cut-in-Stop.new.self c.next-in-Stop.new.self c.next-in-Stop.result c.next-in-Stop.ensures.next);
      note = last_note_given c.cut-in-Stop.new.self c.next-in-Stop.new.self c.next-in-Stop.result (Stop c.in-Stop.limit) (Stopped c.in-Stop.limit) _ few c.next-in-Stop.ensures.next refl;
      failures = first_of (search rules, grind (arith, common_steps));
      fault = first_of (search rules, grind (arith, common_steps));
    })
