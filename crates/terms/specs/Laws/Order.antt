-- Laws of orders: what a sound list of them says of a seat is legal, and a separate seat shares its owner with no other.
-- Assumes nothing.
use Rattle.std.specs.Prelude.{Option, Some, None, ◌≡◌, refl, Bool, true, false, ◌&&◌, cond, List, [], ◌∷◌, ℕ, ◌+◌, ◌≤◌, ◌<◌, eqb}
use Rattle.std.specs.Option.{UnwrapsOrElse}
use Rattle.std.proofs.Common.{sym, ap, subst, ◌∙◌, arith, eqb-true, leb-true}
use Rattle.terms.specs.Base.{within, every, rising, Range}
use Rattle.terms.specs.Rule.Order.{most_options, legal_options, is_separate, is_order, seat_before, sound_orders, letting_of}
use Rattle.terms.specs.Rule.Order.{tenant_of, options_of, owner_of}
use Rattle.terms.specs.Rule.Book.{orders, sound_book, owner_by}
use Rattle.terms.specs.Laws.Bools.{and_left, and_right, cases, within_at}
use Rattle.terms.specs.Laws.Book.{sound_parts}
use Rattle.terms.specs.declared.order.Order.{Order}
use Rattle.terms.specs.declared.order.Letting.{Letting}

-- ---- the values of each case

pub tenant_none : tenant_of None ≡ 0
unfolding tenant_of
tenant_none = refl

pub tenant_let : (l : Letting) → tenant_of (Some l) ≡ l.tenant
unfolding tenant_of
tenant_let l = refl

pub options_none : options_of None ≡ 0
unfolding options_of
options_none = refl

pub options_let : (l : Letting) → options_of (Some l) ≡ l.options
unfolding options_of
options_let l = refl

-- a letting, or zeros where there is none, has the values of each case
pub or_zeros : (l : Option Letting) (r : Letting) → UnwrapsOrElse l (λ d. (d.tenant ≡ 0) × (d.options ≡ 0)) r
    → (r.tenant ≡ tenant_of l) × (r.options ≡ options_of l)
or_zeros None r p = (p.0 ∙ sym tenant_none, p.1 ∙ sym options_none)
or_zeros (Some x) r p =
    (ap (λ (l : Letting). l.tenant) p ∙ sym (tenant_let x), ap (λ (l : Letting). l.options) p ∙ sym (options_let x))

-- ---- a sound order's parts

pub record Ordered (o : Order) : Type 0 where
  pub seat : Range 1 8 o.seat
  pub tenant : Range 1 99 o.tenant
  pub options : legal_options o.options ≡ true

pub order_parts : (o : Order) → is_order o ≡ true → Ordered o
unfolding is_order
order_parts o e =
    let a = within 1 8 o.seat in
    let b = within 1 99 o.tenant in
    let d = legal_options o.options in
    record {
      seat = within_at 1 8 o.seat (and_left a b (and_left (a && b) d e));
      tenant = within_at 1 99 o.tenant (and_right a b (and_left (a && b) d e));
      options = and_right (a && b) d e;
    }

-- ---- what sound orders say

-- a seat is not let, or let to a tenant of 1 to 99 with legal options
pub data Legal (seat : ℕ) : Option Letting → Type 0 where
  legal_not_let : Legal seat None
  legal_let : {l : Letting} → Range 1 8 seat → Range 1 99 l.tenant → legal_options l.options ≡ true → Legal seat (Some l)

-- what an order says of its seat
says : Order → Letting
says o = record { tenant = o.tenant; options = o.options }

order_legal : (o : Order) (s : ℕ) → is_order o ≡ true → eqb o.seat s ≡ true → Legal s (Some (says o))
unfolding says
order_legal o s e f =
    let p = order_parts o e in
    legal_let (subst (Range 1 8) (eqb-true o.seat s f) p.seat) p.tenant p.options

every_legal : (os : List Order) (s : ℕ) → every is_order os ≡ true → Legal s (letting_of s os)
unfolding every letting_of says
every_legal [] s e = legal_not_let
every_legal (o ∷ os) s e = go (eqb o.seat s) refl (every_legal os s (and_right (is_order o) (every is_order os) e))
  where
    go : (b : Bool) → eqb o.seat s ≡ b → Legal s (letting_of s os)
        → Legal s (cond b (Some (says o)) (letting_of s os))
    go true f l = order_legal o s (and_left (is_order o) (every is_order os) e) f
    go false f l = l

pub letting_legal : (b : List ℕ) (s : ℕ) → sound_book b ≡ true → Legal s (letting_of s (orders b))
unfolding sound_orders
letting_legal b s e =
    let os = orders b in every_legal os s (and_left (every is_order os) (rising seat_before os) (sound_parts b e).orderly)

-- ---- owners

pub owner_separate : (seat tenant options : ℕ) → is_separate options ≡ true → owner_of seat tenant options ≡ 100 + seat
unfolding owner_of
owner_separate seat tenant options e = rw e

pub owner_shared : (seat tenant options : ℕ) → is_separate options ≡ false → owner_of seat tenant options ≡ tenant
unfolding owner_of
owner_shared seat tenant options e = rw e

-- an owner is 1 to 108
pub owner_range : (seat tenant options : ℕ) → Range 1 8 seat → Range 1 99 tenant → Range 1 108 (owner_of seat tenant options)
owner_range seat tenant options r q =
    let a = r.low in
    let b = r.high in
    let d = q.low in
    let u = q.high in
    cases (is_separate options)
    (λ e. rw (owner_separate seat tenant options e) (record { low = omega arith; high = omega arith }))
    (λ e. rw (owner_shared seat tenant options e) (record { low = omega arith; high = omega arith }))

-- a separate seat has its owner to itself, whoever the tenants are
pub owner_alone : (seat tenant options seat' tenant' options' : ℕ) → is_separate options ≡ true → tenant' ≤ 99
    → owner_of seat tenant options ≡ owner_of seat' tenant' options' → seat ≡ seat'
owner_alone seat tenant options seat' tenant' options' e l k =
    let a = owner_separate seat tenant options e in
    cases (is_separate options')
    (λ f. let b = owner_separate seat' tenant' options' f in omega arith)
    (λ f. let b = owner_shared seat' tenant' options' f in absurd (omega arith))

-- ---- owners by a book

pub owner_by_is : (b : List ℕ) (s : ℕ)
    → owner_by b s ≡ owner_of s (tenant_of (letting_of s (orders b))) (options_of (letting_of s (orders b)))
unfolding owner_by
owner_by_is b s = refl

pub tenant_range : (b : List ℕ) (s : ℕ) → sound_book b ≡ true → tenant_of (letting_of s (orders b)) ≤ 99
tenant_range b s e = go (letting_legal b s e)
  where
    go : {l : Option Letting} → Legal s l → tenant_of l ≤ 99
    go legal_not_let = omega (arith, tenant_none)
    go (legal_let {l = l} r q o) = omega (arith, tenant_let l, q.high)

-- options: 0 is legal, and what is legal is a byte
pub legal_none : legal_options 0 ≡ true
unfolding legal_options
legal_none = refl

pub legal_lt : (x : ℕ) → legal_options x ≡ true → x < 256
unfolding legal_options
legal_lt x e = let a = leb-true x most_options e in omega arith

pub options_legal : (b : List ℕ) (s : ℕ) → sound_book b ≡ true → legal_options (options_of (letting_of s (orders b))) ≡ true
options_legal b s e = go (letting_legal b s e)
  where
    go : {l : Option Letting} → Legal s l → legal_options (options_of l) ≡ true
    go legal_not_let = ap legal_options options_none ∙ legal_none
    go (legal_let {l = l} r q o) = ap legal_options (options_let l) ∙ o

-- a seat with no tenant is not let, and so has no option
pub options_unlet : (b : List ℕ) (s : ℕ) → sound_book b ≡ true → tenant_of (letting_of s (orders b)) ≡ 0
    → options_of (letting_of s (orders b)) ≡ 0
options_unlet b s e = go (letting_legal b s e)
  where
    go : {l : Option Letting} → Legal s l → tenant_of l ≡ 0 → options_of l ≡ 0
    go legal_not_let z = options_none
    go (legal_let {l = l} r q o) z = absurd (omega (arith, tenant_let l, q.low))

-- in a sound book no other seat has the owner of a separate one
pub owner_apart : (b : List ℕ) (s s' : ℕ) → sound_book b ≡ true → is_separate (options_of (letting_of s (orders b))) ≡ true
    → owner_by b s ≡ owner_by b s' → s ≡ s'
unfolding owner_by
owner_apart b s s' e x k =
    let l = letting_of s (orders b) in
    let l' = letting_of s' (orders b) in
    owner_alone s (tenant_of l) (options_of l) s' (tenant_of l') (options_of l') x (tenant_range b s' e) k
