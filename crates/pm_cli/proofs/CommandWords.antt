-- How many words begin a command; and words are those of one command.
use Rattle.std.proofs.Common.{◌≡◌, ℕ, zero, suc, ◌+◌, ◌≤◌, inl, inr, List, [], ◌∷◌, take, refl, sym, ◌∙◌, ap, ap₂, subst, arith}
use Rattle.std.specs.Prelude.{codes, decimal}
use Rattle.std.proofs.lemmas.Bool.{cases_lt}
use Rattle.std.proofs.lemmas.Fmt.{decimal_injective}
use Rattle.pm_cli.specs.declared.class.Checked.{Checked}
use Rattle.pm_cli.specs.declared.class.Class.{Class}
use Rattle.pm_cli.specs.declared.class.Size.{Size}
use Rattle.pm_cli.specs.declared.close.Trees.{Trees}
use Rattle.pm_cli.specs.declared.close.Trees.TheVariants.{Blossoming}
use Rattle.pm_cli.specs.declared.command.Command.{Command}
use Rattle.pm_cli.specs.declared.command.Command.TheVariants.{Reads, Makes}
use Rattle.pm_cli.specs.declared.command.MapTask.{MapTask}
use Rattle.pm_cli.specs.declared.command.Reader.TheVariants.{Close, OpenEulerian, OfMap, Check, Unsample, Sample}
use Rattle.pm_cli.specs.declared.command.Maker.TheVariants.{Draw, Trip, Census}
use Rattle.pm_cli.specs.declared.command.Verb.{Verb}
use Rattle.pm_cli.specs.declared.command.Verb.TheVariants as verb
use Rattle.pm_cli.specs.Classes.{class_of, class_word, checked_word, size_word}
use Rattle.pm_cli.specs.TreeKinds.{trees_word}
use Rattle.pm_cli.specs.Commands.{verb_word, AreDrawNumbers, verb_of, behind, spelling, IsCommand, Spells, Begins, IsNoCommand}
use Rattle.pm_cli.specs.steps.Words.{StopsAt, AreBehind, IsBehind}
use Rattle.pm_cli.proofs.ClassLaws.{one_class, one_checked, one_size}
use Rattle.pm_cli.proofs.StoppingWords.{first_words, later_words}
use Rattle.pm_cli.proofs.TaskLaws.{one_verb}
use Rattle.pm_cli.proofs.TreeLines.{one_trees}

-- equal prefixes have equal shorter prefixes
prefix : (k j : ℕ) (xs ys : List (List ℕ)) → k ≤ j → take j xs ≡ take j ys → take k xs ≡ take k ys
prefix k j xs ys le e = sym (shorter k j xs le) ∙ ap (take k) e ∙ shorter k j ys le where
  shorter : (k j : ℕ) (xs : List (List ℕ)) → k ≤ j → take k (take j xs) ≡ take k xs
  shorter zero j xs le = refl
  shorter (suc k) zero xs le = absurd (omega arith)
  shorter (suc k) (suc j) [] le = refl
  shorter (suc k) (suc j) (x ∷ xs) le = ap (λ (ys : List (List ℕ)). x ∷ ys) (shorter k j xs (omega arith))

-- a command stands behind its verb
stands_behind : (command : Command) → IsCommand command → AreBehind (verb_of command) (behind command)
stands_behind (Reads (Close trees)) is = record { word = trees_word trees; is = (trees, refl); alone = refl }
stands_behind (Reads (OfMap task)) is = refl
stands_behind (Reads OpenEulerian) is = record { word = codes "eulerian"; is = refl; alone = refl }
stands_behind (Reads (Check class)) is = record { word = checked_word class; is = (class, refl); alone = refl }
stands_behind (Reads (Unsample class)) is = record { word = class_word class; is = (class, refl); alone = refl }
stands_behind (Reads (Sample size)) is = record { size = size; admissible = is; are = refl }
stands_behind (Makes (Draw seed count) size) is =
    record { size = size; admissible = is.1; rest = decimal seed ∷ decimal count ∷ []; numbers = record { seed = seed; count = count; numbers = is.0; are = refl }; are = refl }
stands_behind (Makes (Trip seed) size) is =
    record { size = size; admissible = is.1; rest = decimal seed ∷ []; numbers = record { word = decimal seed; is = (seed, (is.0, refl)); alone = refl }; are = refl }
stands_behind (Makes Census size) is = record { size = size; admissible = is.1; are = refl }

-- and what stands behind a verb is some command
some_command : (v : Verb) (words : List (List ℕ)) → AreBehind v words → (command : Command) × IsBehind v words command
some_command verb.Close words is =
    let trees = is.is in (Reads (Close trees.0), record { is_command = tt; is_verb = refl; same = is.alone ∙ ap (λ (w : List ℕ). w ∷ []) trees.1 })
some_command verb.Open words is = (Reads OpenEulerian, record { is_command = tt; is_verb = refl; same = is.alone ∙ ap (λ (w : List ℕ). w ∷ []) is.is })
some_command (verb.OfMap task) words is = (Reads (OfMap task), record { is_command = tt; is_verb = refl; same = is })
some_command verb.Check words is =
    let class = is.is in (Reads (Check class.0), record { is_command = tt; is_verb = refl; same = is.alone ∙ ap (λ (w : List ℕ). w ∷ []) class.1 })
some_command verb.Unsample words is =
    let class = is.is in (Reads (Unsample class.0), record { is_command = tt; is_verb = refl; same = is.alone ∙ ap (λ (w : List ℕ). w ∷ []) class.1 })
some_command verb.Sample words is = (Reads (Sample is.size), record { is_command = is.admissible; is_verb = refl; same = is.are })
some_command verb.Draw words is =
    let n = is.numbers in (
      Makes (Draw n.seed n.count) is.size,
      record { is_command = (n.numbers, is.admissible); is_verb = refl; same = is.are ∙ ap (λ (rest : List (List ℕ)). class_word (class_of is.size) ∷ size_word is.size ∷ rest) n.are },
    )
some_command verb.Trip words is =
    let n = is.numbers in
    let seed = n.is in (
      Makes (Trip seed.0) is.size,
      record {
        is_command = (seed.1.0, is.admissible);
        is_verb = refl;
        same = is.are ∙ ap (λ (rest : List (List ℕ)). class_word (class_of is.size) ∷ size_word is.size ∷ rest) (n.alone ∙ ap (λ (w : List ℕ). w ∷ []) seed.1.1);
      },
    )
some_command verb.Census words is = (Makes Census is.size, record { is_command = (tt, is.admissible); is_verb = refl; same = is.are })

-- words are no command, where a command begins with the first k of them and none with one more
stops_at : (words : List (List ℕ)) (k : ℕ) → Begins words k → ((command : Command) → IsCommand command → take (suc k) words ≡ take (suc k) (spelling command) → ⊥) → IsNoCommand words k
stops_at words k begins none = record {
  none = λ command s. none command s.is_command (ap (take (suc k)) s.same);
  begins = begins;
  greatest = λ j b. elim (cases_lt k j) [
    | inr fine ↦ fine
    | inl more ↦ absurd (none b.command b.is_command (prefix (suc k) j words (spelling b.command) more b.same))
  ];
}

-- no verb stands first
pub no_verb : (words : List (List ℕ)) → ((v : Verb) → take 1 words ≡ verb_word v ∷ [] → ⊥) → IsNoCommand words 0
no_verb words none =
    stops_at words 0 (record { command = Reads (Close Blossoming); is_command = tt; within = omega arith; same = refl }) (λ command is e. none (verb_of command) e)

-- a verb stands first, and the words behind it are no such words
pub stops_behind : (words : List (List ℕ)) (v : Verb) (rest : List (List ℕ)) (k : ℕ) → words ≡ verb_word v ∷ rest → StopsAt (AreBehind v) rest k → IsNoCommand words (1 + k)
stops_behind words v rest k e stops =
    subst (λ (n : ℕ). IsNoCommand words n) (omega arith) (subst (λ (w : List (List ℕ)). IsNoCommand w (suc k)) (sym e) (stops_at (verb_word v ∷ rest) (suc k) (record {
      command = some.0;
      is_command = let s = some.1 in s.is_command;
      within = let l = stops.within in omega arith;
      same = ap₂ (λ (u : Verb) (w : List (List ℕ)). verb_word u ∷ w) (let s = some.1 in sym s.is_verb) (stops.same ∙ (let s = some.1 in ap (take k) s.same));
    }) none)) where
      some : (command : Command) × IsBehind v stops.whole command
      some = some_command v stops.whole stops.is_in

      none : (command : Command) → IsCommand command → take (suc (suc k)) (verb_word v ∷ rest) ≡ take (suc (suc k)) (spelling command) → ⊥
      none command is same =
          let one = one_verb (verb_of command) v (sym (first_words same)) in
          stops.no_more (behind command) (subst (λ (u : Verb). AreBehind u (behind command)) one (stands_behind command is)) (later_words same)

-- a verb stands first, and words of a command behind it
pub spells_behind : (words : List (List ℕ)) (v : Verb) (rest : List (List ℕ)) (command : Command) → words ≡ verb_word v ∷ rest → IsBehind v rest command → Spells words command
spells_behind words v rest command e is =
    record { is_command = is.is_command; same = e ∙ ap₂ (λ (u : Verb) (w : List (List ℕ)). verb_word u ∷ w) (sym is.is_verb) is.same }

-- the commands of a verb
data IsOfVerb : Verb → Command → Type 0 where
  closes : (trees : Trees) → IsOfVerb verb.Close (Reads (Close trees))
  opens : IsOfVerb verb.Open (Reads OpenEulerian)
  prints : (task : MapTask) → IsOfVerb (verb.OfMap task) (Reads (OfMap task))
  checks : (class : Checked) → IsOfVerb verb.Check (Reads (Check class))
  unsamples : (class : Class) → IsOfVerb verb.Unsample (Reads (Unsample class))
  samples : (size : Size) → IsOfVerb verb.Sample (Reads (Sample size))
  draws : (seed count : ℕ) (size : Size) → IsOfVerb verb.Draw (Makes (Draw seed count) size)
  trips : (seed : ℕ) (size : Size) → IsOfVerb verb.Trip (Makes (Trip seed) size)
  counts : (size : Size) → IsOfVerb verb.Census (Makes Census size)

is_of_verb : (command : Command) → IsOfVerb (verb_of command) command
is_of_verb (Reads (Close trees)) = closes trees
is_of_verb (Reads (OfMap task)) = prints task
is_of_verb (Reads OpenEulerian) = opens
is_of_verb (Reads (Check class)) = checks class
is_of_verb (Reads (Unsample class)) = unsamples class
is_of_verb (Reads (Sample size)) = samples size
is_of_verb (Makes (Draw seed count) size) = draws seed count size
is_of_verb (Makes (Trip seed) size) = trips seed size
is_of_verb (Makes Census size) = counts size

one_drawing : {s t : Size} {a b c d : ℕ} → s ≡ t → a ≡ b → c ≡ d → Makes (Draw a c) s ≡ Makes (Draw b d) t
one_drawing x y z = cc

one_trip : {s t : Size} {a b : ℕ} → s ≡ t → a ≡ b → Makes (Trip a) s ≡ Makes (Trip b) t
one_trip x y = cc

one_count : {s c t d : ℕ} → AreDrawNumbers s c → AreDrawNumbers t d → decimal c ≡ decimal d → c ≡ d
one_count {s} {c} {t} {d} x y e = let p = x.few in let q = y.few in decimal_injective c d (omega arith) (omega arith) e

one_of_verb : (v : Verb) (a b : Command) → IsOfVerb v a → IsOfVerb v b → IsCommand a → IsCommand b → behind a ≡ behind b → a ≡ b
one_of_verb _ _ _ (closes a) (closes b) x y e = ap (λ (trees : Trees). Reads (Close trees)) (one_trees a b (first_words e))
one_of_verb _ _ _ opens opens x y e = refl
one_of_verb _ _ _ (prints task) (prints _) x y e = refl
one_of_verb _ _ _ (checks a) (checks b) x y e = ap (λ (class : Checked). Reads (Check class)) (one_checked a b (first_words e))
one_of_verb _ _ _ (unsamples a) (unsamples b) x y e = ap (λ (class : Class). Reads (Unsample class)) (one_class a b (first_words e))
one_of_verb _ _ _ (samples a) (samples b) x y e = ap (λ (size : Size). Reads (Sample size)) (one_size a b x y (first_words e) (first_words (later_words e)))
one_of_verb _ _ _ (draws s c a) (draws t d b) x y e =
    let rest = later_words (later_words e) in
    one_drawing (one_size a b x.1 y.1 (first_words e) (first_words (later_words e))) (let p = x.0 in let q = y.0 in decimal_injective s t p.fits q.fits (first_words rest))
    (one_count x.0 y.0 (first_words (later_words rest)))
one_of_verb _ _ _ (trips s a) (trips t b) x y e =
    one_trip (one_size a b x.1 y.1 (first_words e) (first_words (later_words e))) (decimal_injective s t x.0 y.0 (first_words (later_words (later_words e))))
one_of_verb _ _ _ (counts a) (counts b) x y e = ap (λ (size : Size). Makes Census size) (one_size a b x.1 y.1 (first_words e) (first_words (later_words e)))

-- words are those of one command
pub one_command : (words : List (List ℕ)) (a b : Command) → Spells words a → Spells words b → a ≡ b
one_command words a b x y =
    let same = sym x.same ∙ y.same in
    let verbs = one_verb (verb_of a) (verb_of b) (first_words same) in
    one_of_verb (verb_of b) a b (subst (λ (v : Verb). IsOfVerb v a) verbs (is_of_verb a)) (is_of_verb b) x.is_command y.is_command (later_words same)
