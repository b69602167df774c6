use Rattle.tbl_text.proofs.FrontItems.{fitting-front, fitting-items, fitting-most, fitting-width}
use Rattle.tbl_text.proofs.laws.fitted.Goals as goal

pub returns-clause-items : goal.returns-clause-items
returns-clause-items c = fitting-items

pub returns-clause-front : goal.returns-clause-front
returns-clause-front c = fitting-front

pub returns-clause-width : goal.returns-clause-width
returns-clause-width c = fitting-width

pub returns-clause-longest : goal.returns-clause-longest
returns-clause-longest c = fitting-most
