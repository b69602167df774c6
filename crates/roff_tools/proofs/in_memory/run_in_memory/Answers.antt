use Rattle.std.proofs.lemmas.Result.{IfOk-at_ok}
use Rattle.cli_devices.specs.Memory.{faults_of_source, tape_of, tape_of_bytes}
use Rattle.cli_devices.specs.WatchedSink.Telling.{told_by}
use Rattle.page_bytes.specs.Devices.{seen}
use Rattle.roff_tools.proofs.InMemory.{RunsJob-told}
use Rattle.roff_tools.proofs.in_memory.run_in_memory.Goals as goal

pub returns : goal.returns
returns c =
    let source = c.run-status.result.1 in
    let now = seen (faults_of_source source) (told_by c.run-status.new.out) (told_by c.run-status.new.err.sink) in record {
      left = tape_of source;
      faults_before = faults_of_source c.new-source.result;
      faults = faults_of_source source;
      out = c.run-status.new.out;
      err = c.run-status.new.err.sink;
      runs = RunsJob-told c.args.job c.in_ok-status.field-0 (tape_of c.new-source.result) (tape_of_bytes c.args.text.now c.args.fail_at) (tape_of source)
          (faults_of_source c.new-source.result) (told_by c.in_ok-out.out) _ (told_by c.in_ok-sink.sink) _ now
          c.new-source.ensures.tape c.in_ok-out.ensures c.in_ok-sink.ensures
          (IfOk-at_ok _ c.in_ok-status.was c.run-status.ensures.runs);
      output = c.into_kept.ensures.kept;
      messages = c.into_kept-2.ensures.kept;
      out_sound = c.into_kept.ensures.sound;
      err_sound = c.into_kept-2.ensures.sound;
    }
