-- Denied, or passed to the tab's process, its domain folded. Assumes nothing.
use Rattle.std.proofs.Common.{[], arith, length, ◌∷◌}
use Rattle.rules.proofs.Steps.Send.{full_size}
use Rattle.rules.proofs.Steps.Tab.{store_denied, store_done}
use Rattle.tabs.proofs.tab.store.Goals as goal

pub returns-then-not-is_cookie_domain : goal.returns-then-not-is_cookie_domain
returns-then-not-is_cookie_domain c =
    store_denied _ _ _ _ _ c.is_cookie_domain.ensures c.suffix.ensures
    c.if-not-is_cookie_domain.true c.deny.ensures

pub done-requires : goal.done-requires
done-requires c =
    let a = c.args in
    let n = full_size (length a.domain.now ∷ []) a.domain.now a.x.now c.send-n.ensures in
    omega (arith, c.requires.1, n)

pub returns : goal.returns
returns c =
    store_done _ _ _ _ _ c.is_cookie_domain.ensures c.suffix.ensures
    c.if-not-is_cookie_domain.false c.requires.2
    c.process.ensures.0 c.send-n.ensures c.done.ensures
