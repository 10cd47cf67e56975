-- Ranks that are put at their objects.
use Rattle.std.proofs.Common.{◌≡◌, ℕ, ◌+◌, ◌<◌, inl, inr, List, length, ap, sym, ◌∙◌, arith}
use Rattle.std.specs.Prelude.{slice_index, slice_index_or, slice_set}
use Rattle.std.proofs.lemmas.Bool.{cases_eq}
use Rattle.std.proofs.lemmas.List.{length-set, get_or-set_same, get_or-set_other}
use Rattle.pm_perm.specs.Permutation.{IsPermutationList}
use Rattle.pm_planting.specs.declared.kind.Kind.{Kind}
use Rattle.pm_planting.specs.declared.kind.Kind.TheVariants.{Leaf, Node}

-- the ranks of the nodes before a place are put
pub record AreRanked (nodes : ℕ) (kinds : List Kind) (objects ranks : List ℕ) (place : ℕ) : Type 0 where
  pub long : length ranks ≡ nodes
  pub ranked : (p half rank : ℕ) → p < place → slice_index_or kinds p Leaf ≡ Node half rank → slice_index ranks (slice_index objects p) ≡ rank

pub ranked_skipped : (nodes : ℕ) (kinds : List Kind) (objects ranks : List ℕ) (place : ℕ) → AreRanked nodes kinds objects ranks place → ((half rank : ℕ) → slice_index_or kinds place Leaf ≡ Node half rank → ⊥) → AreRanked nodes kinds objects ranks (place + 1)
ranked_skipped nodes kinds objects ranks place a none = record {
  long = a.long;
  ranked = λ p half rank within node. elim (cases_eq p place) [
    | inl last ↦ absurd (none half rank (ap (λ (k : ℕ). slice_index_or kinds k Leaf) (sym last) ∙ node))
    | inr apart ↦ a.ranked p half rank (omega (arith, within, apart)) node
  ];
}

pub ranked_one : (nodes : ℕ) (kinds : List Kind) (objects ranks after : List ℕ) (place half rank : ℕ) → IsPermutationList objects → AreRanked nodes kinds objects ranks place → place < length objects → slice_index objects place < nodes
    → slice_index_or kinds place Leaf ≡ Node half rank → after ≡ slice_set ranks (slice_index objects place) rank → AreRanked nodes kinds objects after (place + 1)
ranked_one nodes kinds objects ranks after place half rank permute a less inside here set = record {
  long = ap length set ∙ length-set ranks (slice_index objects place) rank ∙ a.long;
  ranked = λ p half' rank' within node. elim (cases_eq p place) [
    | inl last ↦
        let same : Node half rank ≡ Node half' rank' = sym here ∙ ap (λ (k : ℕ). slice_index_or kinds k Leaf) (sym last) ∙ node in
        let ranks_same : rank ≡ rank' = cc in
        ap (λ (k : ℕ). slice_index after (slice_index objects k)) last ∙ ap (λ (xs : List ℕ). slice_index xs (slice_index objects place)) set
        ∙ get_or-set_same ranks (slice_index objects place) rank 0 (let l = a.long in omega (arith, inside, l)) ∙ ranks_same
    | inr apart ↦
        ap (λ (xs : List ℕ). slice_index xs (slice_index objects p)) set
        ∙ get_or-set_other ranks (slice_index objects place) (slice_index objects p) rank 0
        (λ e. apart (permute.injective p place (omega (arith, within, less, apart)) less e))
        ∙ a.ranked p half' rank' (omega (arith, within, apart)) node
  ];
}
