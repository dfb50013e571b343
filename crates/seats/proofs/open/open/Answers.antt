-- An open that nothing refuses is one that the table takes. Assumes nothing.
use Rattle.std.proofs.Common.{sym}
use Rattle.std.proofs.lemmas.Result.{err_from_is_err_and}
use Rattle.rules.proofs.Laws.Open.{open_openable}
use Rattle.rules.proofs.Steps.Open.{open_refused, open_done}
use Rattle.seats.proofs.open.open.Goals as goal

pub returns-in_err-check_open : goal.returns-in_err-check_open
returns-in_err-check_open c =
    let p = err_from_is_err_and c.from_residual.result c.from_residual.ensures.1 in
    rw (p.1, p.2) (open_refused _ _ _ _ _ c.in_err-check_open.ensures)

pub take-requires : goal.take-requires
take-requires c =
    let w = c.requires in
    record {
      takes = open_openable _ _ _ _ w.sound w.is_let (sym c.in_ok-check_open.ensures);
      roomy = w.roomy;
    }

pub returns : goal.returns
returns c = open_done _ _ _ _ c.in_ok-check_open.ensures c.take.ensures
