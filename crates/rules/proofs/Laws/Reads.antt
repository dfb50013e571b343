-- What is read off the bytes of a frame: party, id, tag and payload are the frame's, and so are the numbers and the parts that
-- stand in the payload. Assumes nothing.
use Rattle.std.specs.Prelude.{ℕ, ◌+◌, ◌-◌, ◌≤◌, ◌<◌, ◌≡◌, refl, true, List, [], ◌++◌, get_or, drop}
use Rattle.std.proofs.Math.Path.{sym}
use Rattle.std.proofs.Common.{ap, subst, ◌∙◌, append-nil, arith, get_or-drop, le-leb, eq-eqb}
use Rattle.std.proofs.Math.ListN.{length, length-append}
use Rattle.std.proofs.Math.Seq.{drop-drop, drop-append_seam, take-append_seam}
use Rattle.terms.specs.Names.{num}
use Rattle.terms.specs.Laws.Num.{num2}
use Rattle.rules.specs.Rule.Frame.{be, framed, head, bytes}
use Rattle.rules.specs.Rule.Event.{part, sized, rest, field, delivered}
use Rattle.rules.proofs.Laws.Frame.{length_bytes}
use Rattle.rules.proofs.Laws.Head.{Front, frame_front, four}
use Rattle.rules.proofs.Laws.Memory.{rest_is}

pub record Reads (e : List ℕ) (p i g : ℕ) (x : List ℕ) : Type 0 where
  pub whole : sized e ≡ true
  pub long : length e ≡ 10 + length x
  pub party= : get_or e 0 0 ≡ p
  pub id= : num e 1 4 ≡ i
  pub tag= : get_or e 5 0 ≡ g
  pub payload= : drop 10 e ≡ x

-- ten bytes of head, and as many more as it says
sized_of : (e : List ℕ) → 10 ≤ length e → num e 6 4 ≤ 4096 → num e 6 4 ≡ length e - 10 → sized e ≡ true
unfolding sized
sized_of e h k q = rw (le-leb 10 (length e) h, le-leb (num e 6 4) 4096 k, eq-eqb (num e 6 4) (length e - 10) q)

pub frame_reads : (p i g : ℕ) (x : List ℕ) → p < 256 → i < 4294967296 → g < 256 → length x ≤ 4096
    → Reads (bytes (framed p i g x)) p i g x
unfolding bytes head be
frame_reads p i g x hp hi hg hx =
    let a = framed p i g x in
    let e = bytes a in
    let f = subst (Front a []) (append-nil e) (frame_front a hp hi hg (omega arith) []) in
    let n = f.size= in
    record {
      whole = sized_of e (omega arith) (omega arith) (omega arith);
      long = length_bytes a;
      party= = f.party=;
      id= = f.id=;
      tag= = f.tag=;
      payload= = refl;
    }

-- ---- the payload

module _ {e : List ℕ} {p i g : ℕ} {x : List ℕ} (w : Reads e p i g x) where
  byte_of : (j : ℕ) → get_or e (10 + j) 0 ≡ get_or x j 0
  byte_of j = sym (get_or-drop 10 e j 0) ∙ ap (λ (l : List ℕ). get_or l j 0) w.payload=

  -- from its byte j on
  pub rest_of : (j : ℕ) → j ≤ length x → part e (rest e j) ≡ drop j x
  rest_of j h =
      let l = w.long in rest_is e j (omega arith) ∙ sym (drop-drop j 10 e) ∙ ap (drop j) w.payload=

  pub all_of_lem : part e (rest e 0) ≡ x
  all_of_lem = rest_of 0 (omega arith)

-- ---- a key, a port and a host, a tab and what is for it, a domain and a cookie

module _ {e : List ℕ} {p i g : ℕ} where
  pub key_of : (k : ℕ) → Reads e p i g (be 1 k) → k < 256 → get_or e 10 0 ≡ k
  unfolding be
  key_of k w h = omega (arith, byte_of w 0)

  module _ (port : ℕ) (host : List ℕ) (w : Reads e p i g (be 2 port ++ host)) where
    pub port_of : port < 65536 → num e 10 2 ≡ port
    unfolding be
    port_of h = omega (arith, num2 e 10, byte_of w 0, byte_of w 1)

    pub host_of : part e (rest e 2) ≡ host
    unfolding be
    host_of = rest_of w 2 (omega arith)

  module _ (n : ℕ) (x : List ℕ) (w : Reads e p i g (be 4 n ++ x)) where
    pub tab_of_lem : n < 4294967296 → (delivered e).tab ≡ n
    unfolding be delivered
    tab_of_lem h = rw (four e 10, byte_of w 0, byte_of w 1, byte_of w 2, byte_of w 3) (omega arith)

    pub body_of : part e (delivered e).body ≡ x
    unfolding be delivered
    body_of = rest_of w 4 (omega arith)

  module _ (domain x : List ℕ) (w : Reads e p i g (be 1 (length domain) ++ (domain ++ x))) (short : length domain < 256) where
    pub stored_size : get_or e 10 0 ≡ length domain
    unfolding be
    stored_size = omega (arith, byte_of w 0)

    pub stored_domain : part e (field 1 (get_or e 10 0)) ≡ domain
    unfolding be part field
    stored_domain =
        rw (stored_size, ← drop-drop 1 10 e, w.payload=) (take-append_seam domain x)

    pub stored_cookie : part e (rest e (1 + get_or e 10 0)) ≡ x
    unfolding be
    stored_cookie =
        rw stored_size
        (rest_of w (1 + length domain) (omega (arith, length-append domain x))
        ∙ sym (drop-drop (length domain) 1 (be 1 (length domain) ++ (domain ++ x))) ∙ drop-append_seam domain x)
