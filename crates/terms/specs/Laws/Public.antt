-- What is proved of a suffix, of whichever part of a host is public: `Public` says what such a part has to meet.
-- Assumes nothing.
use Rattle.std.specs.Prelude.{◌≡◌, Bool, List, ℕ, ◌+◌, ◌-◌, ◌≤◌, ◌<◌, length, get_or, take, drop}
use Rattle.std.proofs.Math.Path.{refl}
use Rattle.std.proofs.Common.{sym, ap, subst, ◌∙◌, arith}
use Rattle.std.proofs.Math.Bool.{true, false, cond}
use Rattle.terms.specs.Base.{within, last_of, Range}
use Rattle.terms.specs.Rule.Name.{folded, labels, has_dot, is_name}
use Rattle.terms.specs.Rule.Under.{under}
use Rattle.terms.specs.Rule.Suffix.{with_label, Answer, no_part, last_part, all_of, last_bytes, suffix_by}
use Rattle.terms.specs.Laws.Bools.{within_at, within_in}
use Rattle.terms.specs.Laws.Fold.{length_folded, folded_drop, folded_take}
use Rattle.terms.specs.Laws.Labels.{last_folded}
use Rattle.terms.specs.Laws.Name.{name_folded}
use Rattle.terms.specs.Laws.Stands.{reached, found, stands_under, part_name, part_dot, part_size, stands_whole}
use Rattle.terms.specs.Laws.Answer.{by_named, last_bytes_in}

-- how many of a host's last bytes are public: where some are and not all, a dot stands before them; as many whatever the
-- case; and as many of the suffix, which has one label more, as of the host
pub record Public (public : List ℕ → ℕ) : Type 0 where
  pub behind : (h : List ℕ) → 0 < public h → public h < length h → get_or h (length h - (public h + 1)) 0 ≡ 46
  pub unseen : (h : List ℕ) → public (folded h) ≡ public h
  pub kept : (h : List ℕ) → 0 < public h → public h < length h
      → public (drop (length h - with_label h (public h)) h) ≡ public h

-- ---- what a suffix is, of a host and of the question that gives it

pub record SuffixBy (ask : List ℕ → Answer) (h part : List ℕ) : Type 0 where
  pub host_name : is_name h ≡ true
  pub name : is_name part ≡ true
  pub above : under h part ≡ true
  pub dotted : has_dot part ≡ true
  pub size : Range 3 64 (length part)
  pub own : ask part ≡ all_of part

-- ---- case

unfoldable pub folded_answer : Answer → Answer
folded_answer a = record { why = a.why; part = folded a.part; from = a.from }

with_label_folded : (h : List ℕ) (m : ℕ) → with_label (folded h) m ≡ with_label h m
unfolding with_label
with_label_folded h m =
    let n = length h - (m + 1) in
    let e : length (last_of (labels (take n (folded h)))) ≡ length (last_of (labels (take n h))) =
    ap (λ (s : List ℕ). length (last_of (labels s))) (sym (folded_take n h))
    ∙ ap length (last_folded (take n h)) ∙ length_folded (last_of (labels (take n h))) in
    rw (length_folded h, e)

last_bytes_folded : (h : List ℕ) (r : ℕ) → last_bytes (folded h) r ≡ folded_answer (last_bytes h r)
unfolding last_bytes folded_answer folded
last_bytes_folded h r = go (within 1 64 r)
  where
    go : (w : Bool) → cond w (last_part (folded h) r) (no_part 7) ≡ folded_answer (cond w (last_part h r) (no_part 7))
    go true = rw (length_folded h, ← folded_drop (length h - r) h)
    go false = refl

-- ---- the suffix by a public part

module _ (public : List ℕ → ℕ) (is : Public public) where
  -- a name is all of its own suffix if all of it is its public part and one label more
  own : (s : List ℕ) (m : ℕ) → is_name s ≡ true → Range 3 64 (length s) → public s ≡ m → with_label s m ≡ length s
      → suffix_by public s ≡ all_of s
  own s m n k p w =
      let a = k.low in
      let i : within 1 64 (length s) ≡ true = within_in 1 64 (length s) (omega arith) k.high in
      let z : length s - length s ≡ 0 = omega arith in
      by_named public s n ∙ ap (last_bytes s) (ap (with_label s) p ∙ w) ∙ last_bytes_in s (length s) i ∙ rw z

  -- what is given is a name of 3 to 64 bytes with a dot, that the host is under and that is all of its own suffix
  pub by_given : (h : List ℕ) → is_name h ≡ true → within 1 64 (with_label h (public h)) ≡ true
      → SuffixBy (suffix_by public) h (drop (length h - with_label h (public h)) h)
  by_given h n i =
      let m = public h in
      let g = within_at 1 64 (with_label h m) i in
      let k = reached h m g.low in
      let f = found h m k.0 k.1 (is.behind h k.0 k.1) in
      let s = f.part in
      let w = f.stands in
      let pn = part_name h s m n w in
      let u : length s ≤ 64 = rw f.size at g.high in
      let z : Range 3 64 (length s) = record { low = part_size h s m k.0 pn w; high = u } in
      let p : public s ≡ m = rw f.taken at (is.kept h k.0 k.1) in
      subst (SuffixBy (suffix_by public) h) (sym f.taken)
      (record {
        host_name = n;
        name = pn;
        above = stands_under h s m w;
        dotted = part_dot h s m w;
        size = z;
        own = own s m pn z p (stands_whole h s m k.0 w);
      })

  -- a folded host has the folded suffix
  pub by_folded : (h : List ℕ) → suffix_by public (folded h) ≡ folded_answer (suffix_by public h)
  unfolding suffix_by folded_answer folded
  by_folded h =
      let m = public h in
      rw (name_folded h, is.unseen h, with_label_folded h m, last_bytes_folded h (with_label h m))
      (go (is_name h) (last_bytes h (with_label h m)))
    where
      go : (n : Bool) (a : Answer) → cond n (folded_answer a) (no_part 7) ≡ folded_answer (cond n a (no_part 7))
      go true a = refl
      go false a = refl
