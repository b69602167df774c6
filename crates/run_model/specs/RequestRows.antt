-- Rows of requests, as the code has them.
use Rattle.run_model.specs.declared.request.Request.{Request}
use Rattle.run_model.specs.declared.request.Row.{Row as CodedRow}
use Rattle.run_model.specs.Requests.{Row, row_of}

-- the row that the code has for a request
abbrev pub coded_row : Request → CodedRow
coded_row request =
    let row : Row = row_of request in
    record { name = row.name; line = row.line; breaks = row.breaks }
