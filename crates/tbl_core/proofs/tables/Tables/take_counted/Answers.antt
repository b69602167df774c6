use Rattle.std.proofs.Common.{rules, ◌≡◌, ◌==◌, ◌&&◌, false, Some, sym, ap, ◌∙◌, []}
use Rattle.input_source.specs.Bytes.{newline}
use Rattle.tbl_core.specs.declared.place.Position.{Position}
use Rattle.tbl_core.specs.Lines.{ends_name, is_name}
use Rattle.tbl_core.specs.Machine.{Step, limit_inside, stops}
use Rattle.tbl_table.specs.Table.{told_at_cut}
use Rattle.tbl_core.specs.Tables.{TablesState, counted_step, pending_of, standing_of}
use Rattle.tbl_core.proofs.Pending.{nothing_pending, begun_pending, read_pending, stop_pending}
use Rattle.tbl_core.proofs.Stopping.{counted_stop}
use Rattle.tbl_core.proofs.tables.Tables.take_counted.Goals as goal

pub begin_behind-self-inside-requires : goal.begin_behind-self-inside-requires
begin_behind-self-inside-requires c =
    let none = nothing_pending c.self.inside.table.told c.self.inside.own c.self.inside.table.to_come (ap (λ (s : TablesState). s.at.pending) c.self.view_is ∙ c.requires) in
    record { told = none.no_told; bytes = none.no_bytes }

pub begin_behind-self-inside-requires-in-RestOfStart : goal.begin_behind-self-inside-requires-in-RestOfStart
begin_behind-self-inside-requires-in-RestOfStart c =
    let none = nothing_pending c.self.inside.table.told c.self.inside.own c.self.inside.table.to_come (ap (λ (s : TablesState). s.at.pending) c.self.view_is ∙ c.requires) in
    record { told = none.no_told; bytes = none.no_bytes }

pub returns-then-ends_name-clause-out : goal.returns-then-ends_name-clause-out
returns-then-ends_name-clause-out c =
    let none = nothing_pending c.self.inside.table.told c.self.inside.own c.self.inside.table.to_come (ap (λ (s : TablesState). s.at.pending) c.self.view_is ∙ c.requires) in
    let empty = begun_pending (c.args.byte == newline) c.self.inside.table c.self.inside.own none in
    let is : pending_of c.begin_behind-self-inside.new.table c.self.inside.own ≡ [] = rw c.begin_behind-self-inside.ensures.table empty in
    search rules

pub returns-in-Some-clause-out : goal.returns-in-Some-clause-out
returns-in-Some-clause-out c =
    let a = c.self.inside in
    let is : pending_of c.cut.new.self c.own_told-self-inside-in-Some.result ≡ (stops a.limits c.in-Some.limit a.count.line (told_at_cut a.table.reading.table)).out =
    stop_pending c.cut.new.self c.own_told-self-inside-in-Some.result (told_at_cut a.table.reading.table) a.limits c.in-Some.limit a.count.line
    c.cut.ensures.told c.cut.ensures.to_come c.own_told-self-inside-in-Some.ensures in
    let goes_on : (is_name c.in-Inside.front && ends_name c.args.byte) ≡ false = search rules in
    let met : limit_inside a.limits c.args.byte c.in-Inside.front a.table.reading ≡ Some c.in-Some.limit = search rules in
    let step = ap (λ (s : TablesState). counted_step s.limits s.line_length c.args.byte s.at.standing) (sym c.self.view_is)
    ∙ ap (λ (p : Position). counted_step a.limits a.line_length c.args.byte (standing_of a.count p a.table.reading)) c.in-Inside.is
    ∙ counted_stop a.limits a.line_length c.args.byte a.count c.in-Inside.front a.table.reading c.in-Some.limit goes_on met in
    is ∙ ap (λ (s : Step). s.out) (sym step)

pub returns-in-None-clause-out : goal.returns-in-None-clause-out
returns-in-None-clause-out c =
    let none = nothing_pending c.self.inside.table.told c.self.inside.own c.self.inside.table.to_come (ap (λ (s : TablesState). s.at.pending) c.self.view_is ∙ c.requires) in
    let is = read_pending c.self.inside.table c.read_on.new.table c.self.inside.own none c.read_on.ensures.told c.read_on.ensures.to_come in
    search rules
