-- Edges that are cut, the walk along the others, and a choice of the edges that is settled where the walk meets each first.
use Rattle.std.proofs.Common.{◌≡◌, ◌≢◌, ℕ, zero, suc, ◌<◌, ◌⊎◌, inl, inr, Bool, true, false, ◌||◌, cond, eqb, refl, sym, ap, ◌∙◌, subst, eq-eqb, ne_eqb, arith}
use Rattle.std.proofs.lemmas.Bool.{cases_Bool, cases_eq, cond-true, cond-false, or_left, or_right, or_from, false≢true}
use Rattle.pm_perm.specs.Permutation.{IsPermutationBelow}
use Rattle.pm_perm.specs.Cycles.{repeated}
use Rattle.pm_perm.specs.Pairs.{IsInvolutionBelow}
use Rattle.pm_perm.proofs.Permutations.{reached_or_not}
use Rattle.pm_perm.proofs.PartPairs.{involution-permutes}
use Rattle.pm_perm.proofs.Renumbered.{product-permutes}
use Rattle.pm_perm.proofs.Repeats.{repeated-inside}
use Rattle.pm_map.specs.Structure.{Structure, IsStructure}

-- edges that are cut, told by a test of darts that says the same of twins
pub record IsCutting (s : Structure) (cut : ℕ → Bool) : Type 0 where
  pub both : (d : ℕ) → d < s.darts → cut (s.twin d) ≡ cut d

-- the dart itself where its edge is cut, and else its twin
abbrev pub across_by : Structure → (ℕ → Bool) → ℕ → ℕ
across_by s cut d = cond (cut d) d (s.twin d)

-- the walk goes on to the next dart behind that
abbrev pub step_by : Structure → (ℕ → Bool) → ℕ → ℕ
step_by s cut d = s.next (across_by s cut d)

-- the dart of the walk from the root after so many steps
abbrev pub dart_after : Structure → (ℕ → Bool) → ℕ → ℕ
dart_after s cut steps = repeated (step_by s cut) steps s.root

pub step_by-cut : (s : Structure) (cut : ℕ → Bool) (d : ℕ) → cut d ≡ true → step_by s cut d ≡ s.next d
step_by-cut s cut d is = ap s.next (cond-true (cut d) d (s.twin d) is)

pub step_by-kept : (s : Structure) (cut : ℕ → Bool) (d : ℕ) → cut d ≡ false → step_by s cut d ≡ s.next (s.twin d)
step_by-kept s cut d is = ap s.next (cond-false (cut d) d (s.twin d) is)

across_by-involutes : (s : Structure) (cut : ℕ → Bool) → IsStructure s → IsCutting s cut → IsInvolutionBelow s.darts (across_by s cut)
across_by-involutes s cut is cutting = record {
  stays = λ d h. elim (cases_Bool (cut d)) [
    | inl cuts ↦ subst (λ x. x < s.darts) (sym (cond-true (cut d) d (s.twin d) cuts)) h
    | inr kept ↦ subst (λ x. x < s.darts) (sym (cond-false (cut d) d (s.twin d) kept)) (is.twin_stays d h)
  ];
  twice = λ d h. elim (cases_Bool (cut d)) [
    | inl cuts ↦ ap (across_by s cut) (cond-true (cut d) d (s.twin d) cuts) ∙ cond-true (cut d) d (s.twin d) cuts
    | inr kept ↦
        ap (across_by s cut) (cond-false (cut d) d (s.twin d) kept)
        ∙ cond-false (cut (s.twin d)) (s.twin d) (s.twin (s.twin d)) (cutting.both d h ∙ kept) ∙ is.twin_back d h
  ];
}

-- so no two darts are followed by one
pub step_by-permutes : (s : Structure) (cut : ℕ → Bool) → IsStructure s → IsCutting s cut → IsPermutationBelow s.darts (step_by s cut)
step_by-permutes s cut is cutting =
    product-permutes s.darts (step_by s cut) s.next (across_by s cut) is.rotation
    (involution-permutes s.darts (across_by s cut) (across_by-involutes s cut is cutting)) (record { value = λ k h. refl })

-- where the walk meets an edge first, within so many steps, the edge is cut exactly where the dart passes
pub record IsDecided (s : Structure) (out : ℕ → Bool) (cut : ℕ → Bool) (count : ℕ) : Type 0 where
  pub decided : (j : ℕ) → j < count → ((i : ℕ) → i < j → dart_after s cut i ≢ s.twin (dart_after s cut j))
      → cut (dart_after s cut j) ≡ out (dart_after s cut j)

decided_more : (s : Structure) (out : ℕ → Bool) (cut : ℕ → Bool) (count : ℕ) → IsDecided s out cut count
    → (((i : ℕ) → i < count → dart_after s cut i ≢ s.twin (dart_after s cut count)) → cut (dart_after s cut count) ≡ out (dart_after s cut count))
    → IsDecided s out cut (suc count)
decided_more s out cut count before here = record {
  decided = λ j h. elim (cases_eq j count) [
    | inl same ↦
        subst (λ k. ((i : ℕ) → i < k → dart_after s cut i ≢ s.twin (dart_after s cut k)) → cut (dart_after s cut k) ≡ out (dart_after s cut k)) (sym same) here
    | inr differs ↦ before.decided j (omega (arith, h, differs))
  ];
}

-- the edge of one dart decided anew
recut : Structure → (ℕ → Bool) → (ℕ → Bool) → ℕ → ℕ → Bool
recut s out cut dart d = cond (eqb d dart || eqb d (s.twin dart)) (out dart) (cut d)

recut-here : (s : Structure) (out : ℕ → Bool) (cut : ℕ → Bool) (dart d : ℕ) → d ≡ dart → recut s out cut dart d ≡ out dart
unfolding recut
recut-here s out cut dart d same =
    cond-true (eqb d dart || eqb d (s.twin dart)) (out dart) (cut d) (or_left (eqb d dart) (eqb d (s.twin dart)) (eq-eqb d dart same))

recut-twin : (s : Structure) (out : ℕ → Bool) (cut : ℕ → Bool) (dart d : ℕ) → d ≡ s.twin dart → recut s out cut dart d ≡ out dart
unfolding recut
recut-twin s out cut dart d same =
    cond-true (eqb d dart || eqb d (s.twin dart)) (out dart) (cut d) (or_right (eqb d dart) (eqb d (s.twin dart)) (eq-eqb d (s.twin dart) same))

recut-other : (s : Structure) (out : ℕ → Bool) (cut : ℕ → Bool) (dart d : ℕ) → d ≢ dart → d ≢ s.twin dart → recut s out cut dart d ≡ cut d
unfolding recut
recut-other s out cut dart d one two =
    cond-false (eqb d dart || eqb d (s.twin dart)) (out dart) (cut d)
    (or_from (eqb d dart) (eqb d (s.twin dart)) (ne_eqb d dart one) (ne_eqb d (s.twin dart) two))

recut-cuts : (s : Structure) (out : ℕ → Bool) (cut : ℕ → Bool) (dart : ℕ) → IsStructure s → dart < s.darts → IsCutting s cut → IsCutting s (recut s out cut dart)
recut-cuts s out cut dart is below cutting = record {
  both = λ d h. elim (cases_eq d dart) [
    | inl same ↦ recut-twin s out cut dart (s.twin d) (ap s.twin same) ∙ sym (recut-here s out cut dart d same)
    | inr one ↦ elim (cases_eq d (s.twin dart)) [
      | inl same ↦ recut-here s out cut dart (s.twin d) (ap s.twin same ∙ is.twin_back dart below) ∙ sym (recut-twin s out cut dart d same)
      | inr two ↦
          recut-other s out cut dart (s.twin d) (λ e. two (sym (is.twin_back d h) ∙ ap s.twin e)) (λ e. one (sym (is.twin_back d h) ∙ ap s.twin e ∙ is.twin_back dart below))
          ∙ cutting.both d h ∙ sym (recut-other s out cut dart d one two)
    ]
  ];
}

-- the walk is the same as far as it meets edges that are cut alike
dart_after-same : (s : Structure) (cut other : ℕ → Bool) (steps : ℕ) → ((i : ℕ) → i < steps → other (dart_after s cut i) ≡ cut (dart_after s cut i)) → dart_after s other steps ≡ dart_after s cut steps
dart_after-same s cut other zero same = refl
dart_after-same s cut other (suc steps) same =
    let before : dart_after s other steps ≡ dart_after s cut steps = dart_after-same s cut other steps (λ i h. same i (omega arith)) in
    let x : ℕ = dart_after s cut steps in
    ap (step_by s other) before ∙ ap (λ b. s.next (cond b x (s.twin x))) (same steps (omega arith))

-- the walk meets the edge of a dart within so many steps, and first at a dart that passes
pub record IsCutAt (s : Structure) (out cut : ℕ → Bool) (count d : ℕ) : Type 0 where
  pub at : ℕ
  pub below : at < count
  pub one_edge : (dart_after s cut at ≡ d) ⊎ (dart_after s cut at ≡ s.twin d)
  pub fresh : (i : ℕ) → i < at → dart_after s cut i ≢ s.twin (dart_after s cut at)
  pub passes : out (dart_after s cut at) ≡ true

-- so it does within more steps, where the walk goes alike
cut_at-more : (s : Structure) (out cut other : ℕ → Bool) (count d : ℕ) → ((i : ℕ) → i < suc count → dart_after s other i ≡ dart_after s cut i) → IsCutAt s out cut count d
    → IsCutAt s out other (suc count) d
cut_at-more s out cut other count d same c =
    let there : dart_after s other c.at ≡ dart_after s cut c.at = same c.at (omega (arith, c.below)) in
    record {
      at = c.at;
      below = omega (arith, c.below);
      one_edge = elim c.one_edge [ inl own ↦ inl (there ∙ own) | inr twin ↦ inr (there ∙ twin) ];
      fresh = λ i less e. c.fresh i less (sym (same i (omega (arith, less, c.below))) ∙ e ∙ ap s.twin there);
      passes = ap out there ∙ c.passes;
    }

-- a choice of the edges that is decided within so many steps; no others are cut
pub record HasCut (s : Structure) (out : ℕ → Bool) (count : ℕ) : Type 0 where
  pub cut : ℕ → Bool
  pub cutting : IsCutting s cut
  pub decided : IsDecided s out cut count
  pub cut_at : (d : ℕ) → d < s.darts → cut d ≡ true → IsCutAt s out cut count d

-- an edge that the walk meets first after these steps is decided there
decided_anew : (s : Structure) (out : ℕ → Bool) (count : ℕ) (c : HasCut s out count) → IsStructure s → dart_after s c.cut count < s.darts
    → ((i : ℕ) → i < count → dart_after s c.cut i ≢ dart_after s c.cut count) → ((i : ℕ) → i < count → dart_after s c.cut i ≢ s.twin (dart_after s c.cut count))
    → HasCut s out (suc count)
decided_anew s out count c is below new apart =
    let dart : ℕ = dart_after s c.cut count in
    let other : ℕ → Bool = recut s out c.cut dart in
    let alike : (i : ℕ) → i < count → recut s out c.cut dart (dart_after s c.cut i) ≡ c.cut (dart_after s c.cut i) = λ i h.
    recut-other s out c.cut dart (dart_after s c.cut i) (new i h) (apart i h) in
    let same : (i : ℕ) → i < suc count → dart_after s (recut s out c.cut dart) i ≡ dart_after s c.cut i = λ i h.
    dart_after-same s c.cut (recut s out c.cut dart) i (λ j less. alike j (omega arith)) in
    let here : dart_after s (recut s out c.cut dart) count ≡ dart = same count (omega arith) in
    let first : (d : ℕ) → (dart ≡ d) ⊎ (dart ≡ s.twin d) → out dart ≡ true → IsCutAt s out (recut s out c.cut dart) (suc count) d = λ d one passes. record {
      at = count;
      below = omega arith;
      one_edge = elim one [ inl own ↦ inl (here ∙ own) | inr twin ↦ inr (here ∙ twin) ];
      fresh = λ i less e. apart i less (sym (same i (omega (arith, less))) ∙ e ∙ ap s.twin here);
      passes = ap out here ∙ passes;
    } in
    record {
      cut = other;
      cutting = recut-cuts s out c.cut dart is below c.cutting;
      decided = record {
        decided = λ j h fresh.
            let there : dart_after s (recut s out c.cut dart) j ≡ dart_after s c.cut j = same j h in
            subst (λ x. recut s out c.cut dart x ≡ out x) (sym there)
            (elim (cases_eq j count) [
              | inl last ↦
                  let at : dart_after s c.cut j ≡ dart = ap (dart_after s c.cut) last in
                  recut-here s out c.cut dart (dart_after s c.cut j) at ∙ ap out (sym at)
              | inr differs ↦
                  let less : j < count = omega (arith, h, differs) in
                  alike j less ∙ c.decided.decided j less (λ i earlier e. fresh i earlier (same i (omega arith) ∙ e ∙ ap s.twin (sym there)))
            ]);
      };
      cut_at = λ d h cuts. elim (cases_eq d dart) [
        | inl own ↦ first d (inl (sym own)) (sym (recut-here s out c.cut dart d own) ∙ cuts)
        | inr one ↦ elim (cases_eq d (s.twin dart)) [
          | inl twin ↦ first d (inr (sym (is.twin_back dart below) ∙ ap s.twin (sym twin))) (sym (recut-twin s out c.cut dart d twin) ∙ cuts)
          | inr two ↦
              cut_at-more s out c.cut (recut s out c.cut dart) count d same (c.cut_at d h (sym (recut-other s out c.cut dart d one two) ∙ cuts))
        ]
      ];
    }

pub has_cut : (s : Structure) (out : ℕ → Bool) → IsStructure s → 0 < s.darts → (count : ℕ) → HasCut s out count
has_cut s out is some zero = record {
  cut = λ d. false;
  cutting = record { both = λ d h. refl };
  decided = record { decided = λ j h. absurd (omega arith) };
  cut_at = λ d h cuts. absurd (false≢true cuts);
}
has_cut s out is some (suc count) =
    let c : HasCut s out count = has_cut s out is some count in
    let dart : ℕ = dart_after s c.cut count in
    let below : dart < s.darts = repeated-inside (step_by s c.cut) s.darts (step_by-permutes s c.cut is c.cutting) count s.root (is.root_stays some) in
    elim (reached_or_not (dart_after s c.cut) count dart) [
      | inl again ↦ record {
        cut = c.cut;
        cutting = c.cutting;
        decided = decided_more s out c.cut count c.decided
            (λ fresh.
            (let less : again.from < count = again.below in
            subst (λ x. c.cut x ≡ out x) again.value (c.decided.decided again.from less (λ i earlier e. fresh i (omega arith) (e ∙ ap s.twin again.value)))));
        cut_at = λ d h cuts. cut_at-more s out c.cut c.cut count d (λ i less. refl) (c.cut_at d h cuts);
      }
      | inr new ↦ elim (reached_or_not (dart_after s c.cut) count (s.twin dart)) [
        | inl met ↦ record {
          cut = c.cut;
          cutting = c.cutting;
          decided = decided_more s out c.cut count c.decided (λ fresh. absurd (fresh met.from met.below met.value));
          cut_at = λ d h cuts. cut_at-more s out c.cut c.cut count d (λ i less. refl) (c.cut_at d h cuts);
        }
        | inr apart ↦ decided_anew s out count c is below new apart
      ]
    ]
