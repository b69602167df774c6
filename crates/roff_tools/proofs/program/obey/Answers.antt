use Rattle.std.proofs.Common.{ap, inl, inr, map, subst}
use Rattle.clap.specs.Words.{subcommand_of}
use Rattle.cli_words.specs.CommandLine.{roff_app}
use Rattle.page_bytes.specs.Sinks.{Sunk}
use Rattle.roff_tools.specs.StartFault.{fault_line}
use Rattle.roff_tools.specs.Told.{Tells}
use Rattle.roff_tools.proofs.Refusing.{no_memory_names, request_names}
use Rattle.roff_tools.specs.declared.fault.StartFault.TheVariants.{OutOfMemory}
use Rattle.roff_tools.proofs.program.obey.Goals as goal

pub returns-in-Err-perform-clause-performs : goal.returns-in-Err-perform-clause-performs
returns-in-Err-perform-clause-performs g c = λ taken.
    let fault = c.in-Err-perform.fault in
    let sunk = ap g.E.MessageSink.sunk c.in-Err-perform.ensures.unwritten.1 in
    inl (
      c.report.ensures.exit,
      record {
        fault = fault;
        names = request_names (g.R.Readers.opens c.args.rt.now) (g.R.Readers.refuses c.args.rt.now) (g.R.Readers.stands c.args.rt.now)
            (subcommand_of roff_app (map g.S.AsStr.text c.args.words.now)) c.in-Ok.request fault c.in-Ok.ensures.ok c.in-Err-perform.ensures.fault;
        told = subst (λ (old : Sunk). Tells old (g.E.MessageSink.sunk c.report.new.err) (fault_line fault)) sunk c.report.ensures.told;
      },
    )

pub returns-in-Err-clause-performs : goal.returns-in-Err-clause-performs
returns-in-Err-clause-performs g c = λ taken.
    let memory = c.show.ensures.memory (c.in-Err.ensures.taken taken) in
    inl (
      memory.0,
      record {
        fault = OutOfMemory;
        names = no_memory_names (g.R.Readers.opens c.args.rt.now) (g.R.Readers.refuses c.args.rt.now) (g.R.Readers.stands c.args.rt.now)
            (subcommand_of roff_app (map g.S.AsStr.text c.args.words.now));
        told = memory.1;
      },
    )

pub returns-in-Err-clause-asked : goal.returns-in-Err-clause-asked
returns-in-Err-clause-asked g c = λ help. elim c.in-Err.ensures.fault [
  | inl memory ↦ inl (c.show.ensures.memory memory)
  | inr among ↦ c.show.ensures.asked (help.1 _ among)
]

pub returns-in-Err-clause-mistaken : goal.returns-in-Err-clause-mistaken
returns-in-Err-clause-mistaken g c = λ mistaken. elim c.in-Err.ensures.fault [
  | inl memory ↦ c.show.ensures.mistake (λ help. cc) (λ version. cc)
  | inr among ↦ c.show.ensures.mistake (mistaken.1 _ among).0 (mistaken.1 _ among).1
]
