-- What is allowed is inside: the domain of a cookie and the host of a socket are names under the suffix. Assumes nothing.
use Rattle.std.specs.Prelude.{◌≡◌, true, not, List, ℕ, eqb}
use Rattle.terms.specs.Names.{is_name, under}
use Rattle.terms.specs.Laws.Bools.{and_left, and_right}
use Rattle.rules.specs.Rule.Allow.{cookie_domain, socket_host, socket_allowed}

pub record Inside (name suffix : List ℕ) : Type 0 where
  pub named : is_name name ≡ true
  pub inside : under name suffix ≡ true

pub cookie_inside : (domain suffix : List ℕ) → cookie_domain domain suffix ≡ true → Inside domain suffix
unfolding cookie_domain
cookie_inside domain suffix e =
    record {
      named = and_left (is_name domain) (under domain suffix) e;
      inside = and_right (is_name domain) (under domain suffix) e;
    }

pub socket_inside : (port : ℕ) (host suffix : List ℕ) → socket_allowed port host suffix ≡ true → Inside host suffix
unfolding socket_allowed socket_host
socket_inside port host suffix e =
    let h = and_right (not (eqb port 0)) (socket_host host suffix) e in
    record { named = and_left (is_name host) (under host suffix) h; inside = and_right (is_name host) (under host suffix) h }
