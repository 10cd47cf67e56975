-- The first step of sampling quartic maps: a growth and ranks make a tree and the rest.
use Rattle.std.proofs.Common.{◌-◌, take_all, length-drop, Bool, length-append, ◌≡◌, ℕ, zero, suc, ◌+◌, ◌*◌, ◌<◌, List, [], ◌∷◌, ◌++◌, length, take, drop, take-append-drop, replicate, All, refl, sym, ◌∙◌, ap, ap₂, subst, arith}
use Rattle.pm_planting.specs.Kinds.{IsWordOfKinds}
use Rattle.std.specs.Prelude.{slice_index}
use Rattle.std.proofs.lemmas.List.{drop_at, get_or-replicate, get_or_default, length-replicate, take_at}
use Rattle.pm_lists.specs.Valid.{IsValidList}
use Rattle.pm_lehmer.specs.Lehmer.{code_of, IsArrangementOf}
use Rattle.pm_lehmer.proofs.Arranged.{IsArrangementOf-unique, has_arrangement, length-arrangement}
use Rattle.pm_perm.specs.Permutation.{IsPermutationList}
use Rattle.pm_remy.specs.Tree.{Tree, labels_of, leaves, shape_of}
use Rattle.pm_remy.specs.Growth.{grown, IsChoices, IsGrowth}
use Rattle.pm_remy.specs.steps.Ungrown.{ungrown}
use Rattle.pm_remy.specs.Words.{forks_in, leaves_in, tree_of}
use Rattle.pm_remy.proofs.Grown.{grown-injective}
use Rattle.pm_remy.proofs.GrowthLaws.{growth_leaves}
use Rattle.pm_remy.proofs.Reading.{leaves-shape, same_tree, shape-tree, whole-tree_of}
use Rattle.pm_remy.proofs.Ungrown.{growth-ungrown, labels-grown}
use Rattle.pm_trees.specs.Blossoming.{IsBlossoming}
use Rattle.pm_trees.specs.Degrees.{nodes_of}
use Rattle.pm_trees.specs.Pairs.{IsProfile, IsRightPair, pair_at}
use Rattle.pm_objects.specs.Codes.{code_bounds}
use Rattle.pm_objects.proofs.CodeBounds.{valid_append, valid_code, valid_cons}
use Rattle.pm_objects.proofs.RangeCodes.{code_from_valid, valid_parts}
use Rattle.pm_euler.specs.Bounds.{growth_bounds, quartic_prefixes, quartic_residues}
use Rattle.pm_euler.specs.Objects.{leaves_of_profile, nodes_of_profile}
use Rattle.pm_euler.specs.Planted.{kinds_of_shape, IsPlanted}
use Rattle.pm_euler.specs.Quartic.{IsQuarticSize, MakesQuartic, quartic_pairs}
use Rattle.pm_euler.specs.Sampled.{HasNodes, IsPrefixOf, IsMade}
use Rattle.pm_euler.proofs.BoundLemmas.{growth_bound, length-growth_bounds}
use Rattle.pm_euler.proofs.QuarticTrees.{planted_from_shape, IsPlantedWord, planted_blossoming, planted_exists, planted_fours, planted_from_word, planted_no_other, planted_ranks, planted_reads_once, planted_relabelled, planted_unique}
use Rattle.pm_euler.proofs.TreeSamples.{HasPrefix, HasMade, HasParts, JoinsRests, MakesTrees}

-- the numbers of a growth and the ranks are those that are valid
choices_from_valid : (n : ℕ) (growth : List ℕ) → IsValidList growth (growth_bounds 0 n) → IsChoices growth
choices_from_valid n growth valid k less =
    let e : 0 + k ≡ k = omega arith in
    let inside : k < n = (let l = valid.as_long in let m = length-growth_bounds 0 n in omega (arith, l, m, less)) in
    subst (λ (x : ℕ). slice_index growth k < x) (growth_bound 0 n k inside ∙ ap (λ (g : ℕ). 2 * (2 * g + 1)) e) (valid.below k less)

valid_choices : (n : ℕ) (growth : List ℕ) → IsChoices growth → length growth ≡ n → IsValidList growth (growth_bounds 0 n)
valid_choices n growth choices long = record {
  as_long = long ∙ sym (length-growth_bounds 0 n);
  below = λ k less.
      let e : k ≡ 0 + k = omega arith in
      subst (λ (x : ℕ). slice_index growth k < x) (ap (λ (g : ℕ). 2 * (2 * g + 1)) e ∙ sym (growth_bound 0 n k (omega (arith, less, long)))) (choices k less);
}

ranks_from_valid : (n : ℕ) (ranks : List ℕ) → IsValidList ranks (replicate n 3) → All (λ rank. rank < 3) ranks
ranks_from_valid n ranks valid k d less =
    let inside : k < n = (let l = valid.as_long in let m = length-replicate {A = ℕ} n 3 in omega (arith, l, m, less)) in
    subst (λ (x : ℕ). x < 3) (sym (get_or_default ranks k d 0 less)) (subst (λ (x : ℕ). slice_index ranks k < x) (get_or-replicate n k 3 0 inside) (valid.below k less))

valid_ranks : (n : ℕ) (ranks : List ℕ) → All (λ rank. rank < 3) ranks → length ranks ≡ n → IsValidList ranks (replicate n 3)
valid_ranks n ranks low long = record {
  as_long = long ∙ sym (length-replicate n 3);
  below = λ k less. subst (λ (x : ℕ). slice_index ranks k < x) (sym (get_or-replicate n k 3 0 (omega (arith, less, long)))) (low k 0 less);
}

-- the two parts of a valid prefix
pub record AreParts (n : ℕ) (prefix : List ℕ) : Type 0 where
  pub growth : IsChoices (take n prefix)
  pub forks : leaves (grown (take n prefix)) ≡ suc n
  pub ranks_long : length (drop n prefix) ≡ n
  pub ranks_low : All (λ rank. rank < 3) (drop n prefix)

pub prefix_parts : (n : ℕ) (prefix : List ℕ) → IsValidList prefix (quartic_prefixes n) → AreParts n prefix
prefix_parts n prefix valid =
    let v = valid_parts n prefix (growth_bounds 0 n) (replicate n 3) (length-growth_bounds 0 n) valid in
    let growth : IsChoices (take n prefix) = choices_from_valid n (take n prefix) v.0 in
    record {
      growth = growth;
      forks = growth_leaves (take n prefix) growth ∙ ap suc (v.0.as_long ∙ length-growth_bounds 0 n);
      ranks_long = v.1.as_long ∙ length-replicate n 3;
      ranks_low = ranks_from_valid n (drop n prefix) v.1;
    }

-- all that is behind the growth
pub ranks_cut : (n : ℕ) (prefix : List ℕ) → take (length prefix - n) (drop n prefix) ≡ drop n prefix
ranks_cut n prefix = take_all (length prefix - n) (drop n prefix) (omega (arith, length-drop n prefix))

-- trees whose nodes have degree 4, as many as the size
fours : (n : ℕ) (word : List ℕ) → nodes_of word 4 ≡ n → ((d : ℕ) → (d ≡ 4 → ⊥) → nodes_of word d ≡ 0) → HasNodes word (quartic_pairs n)
fours n word four none = record { counts = each; others = λ degree other. none degree (λ e. other 0 (omega arith) (sym e)) } where
  each : (k : ℕ) → k < 1 → nodes_of word (pair_at (quartic_pairs n) k).0 ≡ (pair_at (quartic_pairs n) k).1
  each zero less = four
  each (suc k) less = absurd (omega (arith, less))

pub no_other : (n : ℕ) (word : List ℕ) → HasNodes word (quartic_pairs n) → (d : ℕ) → (d ≡ 4 → ⊥) → nodes_of word d ≡ 0
no_other n word has d other = has.others d each where
  each : (k : ℕ) → k < 1 → (pair_at (quartic_pairs n) k).0 ≡ d → ⊥
  each zero less e = other (sym e)
  each (suc k) less e = absurd (omega (arith, less))

only : (n : ℕ) → IsQuarticSize n → (prefix word rest : List ℕ) → IsValidList prefix (quartic_prefixes n) → MakesQuartic n prefix word rest → IsMade (quartic_pairs n) (code_bounds (n + 1)) word rest
only n size prefix word rest valid made =
    let parts = prefix_parts n prefix valid in
    let tree : Tree = grown (take n prefix) in
    let long = parts.ranks_long in
    let few = size.few in
    let labels : length (labels_of (grown (take n prefix))) ≡ n + 1 = (let f = parts.forks in omega (arith, f)) in
    record {
      blossoming = planted_blossoming (grown (take n prefix)) (drop n prefix) word made.is_planted (omega (arith, long, few));
      nodes = fours n word (planted_fours (grown (take n prefix)) (drop n prefix) word made.is_planted ∙ long) (planted_no_other (grown (take n prefix)) (drop n prefix) word made.is_planted);
      valid = subst (λ (r : List ℕ). IsValidList r (code_bounds (n + 1))) (sym made.rest_is) (valid_code (n + 1) (labels_of (grown (take n prefix))) labels);
    }

each_prefix : (n : ℕ) → IsQuarticSize n → (prefix : List ℕ) → IsValidList prefix (quartic_prefixes n) → HasMade (MakesQuartic n) prefix
each_prefix n size prefix valid =
    let parts = prefix_parts n prefix valid in
    let some = size.some in
    let long = parts.ranks_long in
    let planted = planted_exists (grown (take n prefix)) (drop n prefix) (parts.forks ∙ ap suc (sym long)) (omega (arith, some, long)) parts.ranks_low in
    record { word = planted.0; rest = code_of (labels_of (grown (take n prefix))); is_made = record { is_planted = planted.1; rest_is = refl } }

-- a tree with the shape of the planted one and the labels with the code, as a prefix
pub prefix_of_labels : (n : ℕ) (shaped labelled : Tree) (growth ranks labels rest word : List ℕ) → IsBlossoming word → IsPlanted shaped ranks word → length ranks ≡ n → shape_of labelled ≡ shape_of shaped → labels_of labelled ≡ labels
    → IsArrangementOf rest labels → IsGrowth growth labelled → IsPrefixOf (quartic_prefixes n) (MakesQuartic n) (growth ++ ranks) word rest
prefix_of_labels n shaped labelled growth ranks labels rest word tree planted long shapes labels_are arranged grows =
    let a = growth_leaves growth grows.valid in
    let b = ap leaves grows.grows in
    let c = ap leaves_in (sym shapes) in
    let d = planted.forks in
    let g : length growth ≡ n = omega (arith, a, b, c, d, long, leaves-shape labelled, leaves-shape shaped) in
    let first = take_at growth ranks n g in
    let tree_is : grown (take n (growth ++ ranks)) ≡ labelled = ap grown first ∙ grows.grows in
    record {
      valid = valid_append growth ranks (growth_bounds 0 n) (replicate n 3) (valid_choices n growth grows.valid g) (valid_ranks n ranks (planted_ranks shaped ranks word tree planted) long);
      is_made = record {
        is_planted = subst (λ (rs : List ℕ). IsPlanted (grown (take n (growth ++ ranks))) rs word) (sym (drop_at growth ranks n g))
            (subst (λ (t : Tree). IsPlanted t ranks word) (sym tree_is) (planted_relabelled shaped ranks word planted labelled (sym shapes)));
        rest_is = sym (ap (λ (t : Tree). code_of (labels_of t)) tree_is ∙ ap code_of labels_are ∙ arranged.has_code);
      };
    }

each_tree : (n : ℕ) (word rest : List ℕ) → IsMade (quartic_pairs n) (code_bounds (n + 1)) word rest → HasPrefix (quartic_prefixes n) (MakesQuartic n) word rest
each_tree n word rest made =
    let read = planted_from_word word made.blossoming (no_other n word made.nodes) in
    let shaped : Tree = read.is.tree in
    let coded = code_from_valid (n + 1) rest made.valid in
    let found : (labels : List ℕ) × IsArrangementOf rest labels = has_arrangement rest coded.is_code in
    let many : length read.ranks ≡ n = sym (planted_fours read.is.tree read.ranks word read.is.is_planted) ∙ made.nodes.counts 0 (omega arith) in
    let as_long = length-arrangement rest found.0 found.1 in
    let coded_long = coded.long in
    let forks = read.is.is_planted.forks in
    let whole = whole-tree_of (shape_of read.is.tree) found.0 (shape-tree read.is.tree) (omega (arith, as_long, coded_long, forks, many, leaves-shape read.is.tree)) in
    let tree : Tree = tree_of (shape_of read.is.tree) found.0 in
    let grows : IsGrowth (ungrown n (tree_of (shape_of read.is.tree) found.0)) (tree_of (shape_of read.is.tree) found.0) =
    growth-ungrown n (tree_of (shape_of read.is.tree) found.0) (let l = ap length whole.labels_stand in omega (arith, as_long, coded_long, l)) (subst (λ (xs : List ℕ). IsPermutationList xs) (sym whole.labels_stand) found.1.is_permutation) in
    record {
      prefix = ungrown n tree ++ read.ranks;
      is = prefix_of_labels n shaped tree (ungrown n tree) read.ranks found.0 rest word made.blossoming read.is.is_planted many whole.shape whole.labels_stand found.1 grows;
    }

-- two permutations with one code
same_labels : (one other : List ℕ) → IsChoices one → IsChoices other → code_of (labels_of (grown one)) ≡ code_of (labels_of (grown other)) → labels_of (grown one) ≡ labels_of (grown other)
same_labels one other h k e =
    IsArrangementOf-unique (code_of (labels_of (grown other))) (labels_of (grown one)) (labels_of (grown other))
    (record { is_permutation = labels-grown one h; has_code = e }) (record { is_permutation = labels-grown other k; has_code = refl })

one_prefix : (n : ℕ) (prefix other word rest : List ℕ) → IsValidList prefix (quartic_prefixes n) → IsValidList other (quartic_prefixes n) → MakesQuartic n prefix word rest → MakesQuartic n other word rest → prefix ≡ other
one_prefix n prefix other word rest valid others x y =
    let g = (prefix_parts n prefix valid).growth in
    let h = (prefix_parts n other others).growth in
    let read = planted_reads_once (grown (take n prefix)) (drop n prefix) (grown (take n other)) (drop n other) word x.is_planted y.is_planted in
    let trees = same_tree (grown (take n prefix)) (grown (take n other)) read.shapes (same_labels (take n prefix) (take n other) g h (sym x.rest_is ∙ y.rest_is)) in
    sym (take-append-drop n prefix) ∙ ap₂ (λ (xs ys : List ℕ). xs ++ ys) (grown-injective (take n prefix) (take n other) g h trees) read.ranks_are ∙ take-append-drop n other

pub quartic_makes : (n : ℕ) → IsQuarticSize n → MakesTrees (quartic_pairs n) (quartic_prefixes n) (code_bounds (n + 1)) (MakesQuartic n)
quartic_makes n size = record {
  only = only n size;
  each_prefix = each_prefix n size;
  each_tree = each_tree n;
  one_tree = λ prefix word other rest more valid x y. (planted_unique (grown (take n prefix)) (drop n prefix) word other x.is_planted y.is_planted, x.rest_is ∙ sym y.rest_is);
  one_prefix = one_prefix n;
}

-- the profile of the size
pub quartic_profile : (n : ℕ) → IsQuarticSize n → IsProfile (quartic_pairs n)
quartic_profile n size = record { are_pairs = record { some = omega arith; right = right }; few = (let few = size.few in omega (arith, few)) } where
  right : (k : ℕ) → k < 1 → IsRightPair (quartic_pairs n) k
  right zero less = record { even = refl; some = omega arith; few = omega arith; rising = omega arith; counted = size.some }
  right (suc k) less = absurd (omega (arith, less))

-- two leaves more than nodes
pub quartic_leaves : (n : ℕ) → suc (leaves_of_profile (quartic_pairs n)) ≡ n + 2
quartic_leaves n = let nodes : nodes_of_profile (quartic_pairs n) ≡ n = omega (arith, length-append {A = ℕ} (replicate n 2) [], length-replicate {A = ℕ} n 2) in omega (arith, nodes)

-- the residue is the old plant and the rest
pub residue_whole : (n : ℕ) (residue : List ℕ) → IsValidList residue (quartic_residues n) → residue ≡ slice_index residue 0 ∷ take (length residue - 1) (drop 1 residue)
residue_whole n [] valid = absurd (let l = valid.as_long in omega (arith, l))
residue_whole n (old_plant ∷ rest) valid = ap (λ (xs : List ℕ). old_plant ∷ xs) (sym (take_all (suc (length rest) - 1) rest (omega arith)))

pub rest_valid : (n old_plant : ℕ) (rest : List ℕ) → IsValidList (old_plant ∷ rest) (quartic_residues n) → IsValidList rest (code_bounds (n + 1))
rest_valid n old_plant rest valid = let l = valid.as_long in record { as_long = omega (arith, l); below = λ k less. valid.below (suc k) (omega (arith, less)) }

abbrev pub quartic_parts : (n : ℕ) (residue : List ℕ) → IsValidList residue (quartic_residues n) → HasParts (code_bounds (n + 1)) (suc (leaves_of_profile (quartic_pairs n))) (λ rest old_plant. old_plant ∷ rest) residue
quartic_parts n residue valid =
    let whole = residue_whole n residue valid in
    let again = subst (λ (xs : List ℕ). IsValidList xs (quartic_residues n)) whole valid in
    record {
      rest = take (length residue - 1) (drop 1 residue);
      old_plant = slice_index residue 0;
      whole = whole;
      valid = rest_valid n (slice_index residue 0) (take (length residue - 1) (drop 1 residue)) again;
      low = subst (λ (k : ℕ). slice_index residue 0 < k) (sym (quartic_leaves n)) (again.below 0 (omega arith));
    }

pub quartic_joins : (n : ℕ) → JoinsRests (code_bounds (n + 1)) (quartic_residues n) (suc (leaves_of_profile (quartic_pairs n))) (λ rest old_plant. old_plant ∷ rest)
quartic_joins n = record {
  whole = λ rest old_plant valid low. valid_cons old_plant (n + 2) rest (code_bounds (n + 1)) (let e = quartic_leaves n in omega (arith, low, e)) valid;
  parts = λ residue valid. quartic_parts n residue valid;
  once = λ rest other old_plant plant e. (cc, cc);
}

-- the nodes and the ranks that are read of a tree
pub record IsReadOfSize (n : ℕ) (word : List ℕ) (nodes : List Bool) (ranks : List ℕ) : Type 0 where
  pub is : IsPlantedWord nodes ranks word
  pub many : length ranks ≡ n
  pub forks : forks_in nodes ≡ n
  pub leaves_are : leaves_in nodes ≡ suc n

pub read_of_size : (n : ℕ) (word rest : List ℕ) (nodes : List Bool) (ranks : List ℕ) → IsMade (quartic_pairs n) (code_bounds (n + 1)) word rest → length ranks ≡ forks_in nodes → IsWordOfKinds (kinds_of_shape nodes ranks) word → IsReadOfSize n word nodes ranks
read_of_size n word rest nodes ranks made many planted =
    let p = planted_from_shape nodes ranks word many planted in
    let long : length ranks ≡ n = sym (planted_fours p.tree ranks word p.is_planted) ∙ made.nodes.counts 0 (omega arith) in
    let sum = p.is_shape.sum in
    record { is = p; many = long; forks = omega (arith, many, long); leaves_are = omega (arith, many, long, sum) }
