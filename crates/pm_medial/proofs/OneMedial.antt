-- A map has one medial map.
use Rattle.std.proofs.Common.{◌≡◌, ℕ, ◌<◌, List, length, get_or, slice_index, refl, sym, ap, ◌∙◌, subst, arith, Ok, Err}
use Rattle.std.proofs.lemmas.List.{ext_get_or}
use Rattle.pm_perm.proofs.Interleaved.{by_parity}
use Rattle.pm_map.specs.Rotation.{RotationSystem, structure_of, IsRootedMap}
use Rattle.pm_medial.specs.declared.medials.MedialRefusal.TheVariants.{Memory, TooMany}
use Rattle.pm_medial.specs.Medial.{IsMedialMap, HasMedialMap, HasTooManyEdges}
use Rattle.pm_medial.specs.MedialLaws.{MedialHasOneAnswer}
use Rattle.pm_medial.proofs.MedialStructure.{after_even}

pub one_medial : (map one other : RotationSystem) → IsRootedMap map → IsMedialMap map one → IsMedialMap map other → one ≡ other
one_medial map one other rooted first second =
    let entries : (k : ℕ) → k < length one.sigma → get_or one.sigma k 0 ≡ get_or other.sigma k 0 =
    λ k h. by_parity (λ k. slice_index one.sigma k ≡ slice_index other.sigma k) (length map.sigma)
    (λ d l. after_even (structure_of map) (structure_of one) rooted.structure first d l ∙ sym (after_even (structure_of map) (structure_of other) rooted.structure second d l))
    (λ d l. first.after_minus d l ∙ sym (second.after_minus d l)) k (subst (λ n. k < n) first.darts h) in
    let sigma : one.sigma ≡ other.sigma = ext_get_or 0 one.sigma other.sigma (first.darts ∙ sym second.darts) entries in
    let root : one.root ≡ other.root = first.root ∙ sym second.root in
    ap (λ (s : List ℕ). record { sigma = s; root = one.root }) sigma ∙ ap (λ (r : ℕ). record { sigma = other.sigma; root = r }) root

few_and_many : (map medial : RotationSystem) (twice : ℕ) → HasMedialMap map medial → HasTooManyEdges map twice → ⊥
few_and_many map medial twice has over = (let few = has.few in let many = over.many in let counted = over.counted in omega arith)

pub one_medial_answer : MedialHasOneAnswer
one_medial_answer map (Ok one) (Ok other) rooted a b n k = ap Ok (one_medial map one other rooted a.is_medial b.is_medial)
one_medial_answer map (Ok one) (Err (TooMany twice)) rooted a b n k = absurd (few_and_many map one twice a b)
one_medial_answer map (Ok one) (Err Memory) rooted a b n k = absurd (k refl)
one_medial_answer map (Err (TooMany twice)) (Ok other) rooted a b n k = absurd (few_and_many map other twice b a)
one_medial_answer map (Err (TooMany twice)) (Err (TooMany again)) rooted a b n k = ap (λ (e : ℕ). Err (TooMany e)) (a.counted ∙ sym b.counted)
one_medial_answer map (Err (TooMany twice)) (Err Memory) rooted a b n k = absurd (k refl)
one_medial_answer map (Err Memory) second rooted a b n k = absurd (n refl)
