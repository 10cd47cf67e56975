-- Structures that are the same, numbered along the walk and with equal levels, spell one word.
use Rattle.std.proofs.Common.{◌≡◌, ℕ, ◌<◌, ◌≤◌, Bool, cond, ltb, eqb, List, length, sym, ap, ◌∙◌, arith}
use Rattle.std.specs.Prelude.{slice_index}
use Rattle.std.proofs.lemmas.Grind.{same_number_lists}
use Rattle.pm_trees.specs.declared.letters.TheConstants.{LEAF, BUD}
use Rattle.pm_brackets.specs.declared.letters.TheConstants.{OPEN, CLOSE}
use Rattle.pm_map.specs.Structure.{Structure, IsStructure, CarriesTo}
use Rattle.pm_walk.proofs.OneWalk.{twin_there, cut_agrees}
use Rattle.pm_distances.proofs.SameLevels.{up_agrees, walked_is_one}
use Rattle.pm_distances.proofs.Walked.{is_up, is_cut, IsWalkedInOrder}
use Rattle.pm_open.proofs.Letters.{letter_of, IsSpelled}

-- where the renumbering moves no dart, the letters of the darts are the same
letter_agrees : (s t : Structure) (level t_level rename : ℕ → ℕ) → IsStructure s → CarriesTo rename s t → ((d : ℕ) → d < s.darts → t_level (rename d) ≡ level d)
    → ((d : ℕ) → d < s.darts → rename d ≡ d) → (d : ℕ) → d < s.darts → letter_of t t_level d ≡ letter_of s level d
letter_agrees s t level t_level rename structure carries same fixed d l =
    let low : (k : ℕ) → k ≤ d → rename k ≡ k = λ k le. fixed k (omega arith) in
    let twins : t.twin d ≡ s.twin d = twin_there s t (is_up s level) (is_up t t_level) rename structure carries (up_agrees s t level t_level rename structure carries same) d l low ∙ fixed (s.twin d) (structure.twin_stays d l) in
    ap (λ (b : Bool). letter b (t.twin d)) (cut_agrees s t (is_up s level) (is_up t t_level) rename structure carries (up_agrees s t level t_level rename structure carries same) d l low) ∙ ap (letter (is_cut s level d)) twins where
      letter : Bool → ℕ → ℕ
      letter cut twin = cond (eqb d 0) LEAF (cond cut (cond (ltb d twin) BUD LEAF) (cond (ltb d twin) OPEN CLOSE))

pub spelled_is_one : (s t : Structure) (level t_level rename : ℕ → ℕ) (one other : List ℕ) → IsStructure s → CarriesTo rename s t → ((d : ℕ) → d < s.darts → t_level (rename d) ≡ level d)
    → IsWalkedInOrder s level → IsWalkedInOrder t t_level → IsSpelled s level one → IsSpelled t t_level other → one ≡ other
spelled_is_one s t level t_level rename one other structure carries same walked t_walked spelled t_spelled =
    let long : length one ≡ length other = spelled.as_long ∙ carries.darts ∙ sym t_spelled.as_long in
    let fixed : (d : ℕ) → d < s.darts → rename d ≡ d = walked_is_one s t level t_level rename structure carries walked t_walked same in
    same_number_lists one other long (λ d l. entry d (omega (arith, spelled.as_long)) fixed) where
      entry : (d : ℕ) → d < s.darts → ((d : ℕ) → d < s.darts → rename d ≡ d) → slice_index one d ≡ slice_index other d
      entry d l fixed =
          spelled.each d l ∙ sym (letter_agrees s t level t_level rename structure carries same fixed d l) ∙ sym (t_spelled.each d (omega (arith, carries.darts)))
