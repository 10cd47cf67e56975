-- In a plane structure whose darts are numbered along the walk, the edges that are cut are nested, and so are the others.
use Rattle.std.proofs.Common.{◌≡◌, ℕ, suc, ◌+◌, ◌*◌, ◌/◌, ◌%◌, ◌<◌, inl, inr, Bool, false, nat_eq, sym, ◌∙◌, ap, subst, arith}
use Rattle.std.proofs.lemmas.Bool.{cases_Bool, cond-false, ne_eqb}
use Rattle.pm_perm.specs.Cycles.{cycles}
use Rattle.pm_perm.specs.Exchange.{IsProductBelow}
use Rattle.pm_perm.specs.Pairs.{IsInvolutionBelow, IsNestedBelow, pairs}
use Rattle.pm_perm.proofs.PairCounts.{pairs-all}
use Rattle.pm_perm.proofs.Renumbered.{ring-mod}
use Rattle.pm_map.specs.Structure.{Structure, IsStructure, face_next}
use Rattle.pm_map.specs.Plane.{HasEulerTwo}
use Rattle.pm_walk.specs.Laws.{WalkedEdgesAreNested}
use Rattle.pm_walk.specs.Walk.{is_cut, across, partner, IsWalkedInOrder}
use Rattle.pm_walk.proofs.Edges.{cut_twin, across_cut, across_kept, partner_cut, partner_kept}
use Rattle.pm_perm.proofs.BothNested.{pairs-parted, both_nested}

pub across-involution : (s : Structure) (out : ℕ → Bool) → IsStructure s → IsInvolutionBelow s.darts (across s out)
across-involution s out is = record {
  stays = λ d h. elim (cases_Bool (is_cut s out d)) [
    | inl cut ↦ subst (λ e. e < s.darts) (sym (across_cut s out d cut)) h
    | inr kept ↦ subst (λ e. e < s.darts) (sym (across_kept s out d kept)) (is.twin_stays d h)
  ];
  twice = λ d h. elim (cases_Bool (is_cut s out d)) [
    | inl cut ↦ ap (across s out) (across_cut s out d cut) ∙ across_cut s out d cut
    | inr kept ↦ ap (across s out) (across_kept s out d kept) ∙ across_kept s out (s.twin d) (cut_twin s out d is h ∙ kept) ∙ is.twin_back d h
  ];
}

pub partner-involution : (s : Structure) (out : ℕ → Bool) → IsStructure s → IsInvolutionBelow s.darts (partner s out)
partner-involution s out is = record {
  stays = λ d h. elim (cases_Bool (is_cut s out d)) [
    | inl cut ↦ subst (λ e. e < s.darts) (sym (partner_cut s out d cut)) (is.twin_stays d h)
    | inr kept ↦ subst (λ e. e < s.darts) (sym (partner_kept s out d kept)) h
  ];
  twice = λ d h. elim (cases_Bool (is_cut s out d)) [
    | inl cut ↦ ap (partner s out) (partner_cut s out d cut) ∙ partner_cut s out (s.twin d) (cut_twin s out d is h ∙ cut) ∙ is.twin_back d h
    | inr kept ↦ ap (partner s out) (partner_kept s out d kept) ∙ partner_kept s out d kept
  ];
}

-- the next dart around the vertex is the next number after the dart across
pub next-across : (s : Structure) (out : ℕ → Bool) (d : ℕ) → IsStructure s → IsWalkedInOrder s out → d < s.darts → s.next d ≡ suc (across s out d) % s.darts
next-across s out d is walked h =
    let pairs_across : IsInvolutionBelow s.darts (across s out) = across-involution s out is in
    ap s.next (sym (pairs_across.twice d h)) ∙ walked.onward (across s out d) (pairs_across.stays d h)

-- the next dart around the face is the next number after the partner
pub face-partner : (s : Structure) (out : ℕ → Bool) (d : ℕ) → IsStructure s → IsWalkedInOrder s out → d < s.darts → face_next s d ≡ suc (partner s out d) % s.darts
face-partner s out d is walked h =
    next-across s out (s.twin d) is walked (is.twin_stays d h)
    ∙ ap (λ e. suc e % s.darts) (elim (cases_Bool (is_cut s out d)) [
      | inl cut ↦ across_cut s out (s.twin d) (cut_twin s out d is h ∙ cut) ∙ sym (partner_cut s out d cut)
      | inr kept ↦ across_kept s out (s.twin d) (cut_twin s out d is h ∙ kept) ∙ is.twin_back d h ∙ sym (partner_kept s out d kept)
    ])

-- the edges are those that are cut and the others
kinds : (s : Structure) (out : ℕ → Bool) → pairs s.darts (across s out) + pairs s.darts (partner s out) ≡ pairs s.darts s.twin
kinds s out = pairs-parted s.darts s.twin (across s out) (partner s out) (λ d h. elim (cases_Bool (is_cut s out d)) [
  | inl cut ↦ inr (across_cut s out d cut, partner_cut s out d cut)
  | inr kept ↦ inl (across_kept s out d kept, partner_kept s out d kept)
])

-- vertices and faces in numbers, where there is a dart
euler_cycles : (s : Structure) → 0 < s.darts → HasEulerTwo s → cycles s.darts s.next + cycles s.darts (face_next s) ≡ s.darts / 2 + 2
euler_cycles s some euler =
    let few : nat_eq s.darts 0 ≡ false = ne_eqb s.darts 0 (λ e. omega (arith, e, some)) in
    let v = cond-false (nat_eq s.darts 0) 1 (cycles s.darts s.next) few in
    let f = cond-false (nat_eq s.darts 0) 1 (cycles s.darts (face_next s)) few in
    omega (arith, v, f, euler)

pub edges_nested : (s : Structure) (out : ℕ → Bool) → IsStructure s → 0 < s.darts → HasEulerTwo s → IsWalkedInOrder s out
    → IsNestedBelow s.darts (across s out) × IsNestedBelow s.darts (partner s out)
edges_nested s out is some euler walked =
    let all : s.darts ≡ 2 * pairs s.darts s.twin = pairs-all s.darts s.twin (record { stays = is.twin_stays; twice = is.twin_back }) is.twin_other in
    let product : IsProductBelow s.darts s.next (λ k. suc k % s.darts) (across s out) = record { value = λ d h. next-across s out d is walked h } in
    let face_product : IsProductBelow s.darts (face_next s) (λ k. suc k % s.darts) (partner s out) = record { value = λ d h. face-partner s out d is walked h } in
    both_nested s.darts s.next (face_next s) (λ k. suc k % s.darts) (across s out) (partner s out) some (ring-mod s.darts)
    (across-involution s out is) (partner-involution s out is) product face_product
    (counts (cycles s.darts s.next) (cycles s.darts (face_next s)) (pairs s.darts (across s out)) (pairs s.darts (partner s out)) (pairs s.darts s.twin) s.darts
    (euler_cycles s some euler) (kinds s out) all) where
      counts : (v f a b e n : ℕ) → v + f ≡ n / 2 + 2 → a + b ≡ e → n ≡ 2 * e → v + f ≡ a + b + 2
      counts v f a b e n euler kinds all = omega arith

pub walked_nested : WalkedEdgesAreNested
walked_nested s out is some euler walked = edges_nested s out is some euler walked
