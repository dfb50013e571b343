-- The writes of each update, one after the other, as the code makes them. Assumes nothing.
use Rattle.std.specs.Prelude.{◌≡◌, refl, List, [], ℕ, ◌+◌, ◌-◌, ◌^◌, length}
use Rattle.std.proofs.Common.{add-one}
use Rattle.terms.specs.Names.{folded, orders, letting_of, tenant_of, options_of}
use Rattle.terms.specs.Laws.Fold.{folded_nil}
use Rattle.fields.specs.Rule.View.{tenant, options, selected, opens, slots, serial, row, waiting, number, owner, tabs}
use Rattle.fields.specs.Rule.View.{size, last}
use Rattle.fields.specs.Rule.Layout.{table_bytes, view}
use Rattle.fields.specs.Rule.Update.{spelled, writes, hanging, hung, making, row_made, unhanging, unhung, clearing}
use Rattle.fields.specs.Rule.Update.{cleared}
use Rattle.fields.specs.Rule.Fresh.{ordered, fresh, blank}
use Rattle.fields.specs.Held.{WroteField, Left}

pub hung_chain : {t u1 u2 u3 u4 u5 u6 u7 : List ℕ} {s k p n o m c : ℕ}
    → WroteField t u1 (serial s k) n → WroteField u1 u2 (row s k) p → WroteField u2 u3 (waiting s k) 0
    → WroteField u3 u4 (selected s) k
    → WroteField u4 u5 (opens s) o → WroteField u5 u6 (slots s) m → WroteField u6 u7 (tabs p) c
    → n ≡ view t (opens s) + 1 → o ≡ view t (opens s) + 1 → m ≡ view t (slots s) + 2 ^ (k - 1) → c ≡ view t (tabs p) + 1
    → Left u7 (hung t s k p)
unfolding hung hanging writes
hung_chain w1 w2 w3 w4 w5 w6 w7 a b d e =
    (w7.long, rw (w7.is, w6.is, w5.is, w4.is, w3.is, w2.is, w1.is, a, b, d, e))

pub made_chain : {t u1 u2 u3 u4 u5 : List ℕ} {p o n m : ℕ} (suffix : List ℕ)
    → WroteField t u1 (number p) n → WroteField u1 u2 (owner p) o → WroteField u2 u3 (size p) (length suffix)
    → u4 ≡ spelled u3 p (folded suffix) 64 → WroteField u4 u5 last m
    → n ≡ view t last + 1 → m ≡ view t last + 1
    → Left u5 (row_made t p o suffix)
unfolding row_made making writes
made_chain suffix w1 w2 w3 e w5 a b = (w5.long, rw (w5.is, e, w3.is, w2.is, w1.is, a, b))

pub unhung_chain : {t u1 u2 u3 u4 u5 u6 : List ℕ} {s k p m c : ℕ}
    → WroteField t u1 (serial s k) 0 → WroteField u1 u2 (row s k) 0 → WroteField u2 u3 (waiting s k) 0
    → WroteField u3 u4 (selected s) 0
    → WroteField u4 u5 (slots s) m → WroteField u5 u6 (tabs p) c
    → m ≡ view t (slots s) - 2 ^ (k - 1) → c ≡ view t (tabs p) - 1
    → Left u6 (unhung t s k p)
unfolding unhung unhanging writes
unhung_chain w1 w2 w3 w4 w5 w6 b d = (w6.long, rw (w6.is, w5.is, w4.is, w3.is, w2.is, w1.is, b, d))

pub cleared_chain : {t u1 u2 u3 u4 u5 : List ℕ} {p : ℕ} {name : List ℕ}
    → WroteField t u1 (number p) 0 → WroteField u1 u2 (owner p) 0 → WroteField u2 u3 (tabs p) 0 → WroteField u3 u4 (size p) 0
    → name ≡ [] → length u5 ≡ table_bytes → u5 ≡ spelled u4 p (folded name) 64
    → Left u5 (cleared t p)
unfolding cleared clearing writes
cleared_chain w1 w2 w3 w4 n l e = (l, rw (e, n, w4.is, w3.is, w2.is, w1.is, folded_nil))

pub ordered_none : {t : List ℕ} (b : List ℕ) → t ≡ blank → t ≡ ordered b 0
unfolding ordered
ordered_none b e = e

pub ordered_more : {t u v : List ℕ} (b : List ℕ) (n : ℕ) {x y : ℕ}
    → t ≡ ordered b n → x ≡ tenant_of (letting_of (n + 1) (orders b)) → y ≡ options_of (letting_of (n + 1) (orders b))
    → WroteField t u (tenant (n + 1)) x → WroteField u v (options (n + 1)) y
    → Left v (ordered b (n + 1))
unfolding ordered writes
ordered_more b n e a d w1 w2 = (w2.long, rw (w2.is, w1.is, a, d, e, add-one n))

pub fresh_is : (b : List ℕ) → ordered b 8 ≡ fresh b
unfolding fresh
fresh_is b = refl
