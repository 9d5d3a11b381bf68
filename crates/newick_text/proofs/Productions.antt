-- THE AUTOMATON ACCEPTS EXACTLY THE SENTENCES OF THE GRAMMAR: by the trees that texts draw, which have exactly the texts of the productions. Assumes nothing.
use Prim.Native.Nat.{ℕ, zero, suc}
use mathlib.Core.Path.{◌≡◌, refl, sym, ◌∙◌, ap, subst}
use mathlib.Core.Logic.{◌↔◌}
use mathlib.Core.List.{List, [], ◌∷◌, ◌++◌, append_assoc}
use Rattle.statement.specs.Grammar.{Symbol, TEXT, GROUP, CHILDREN, CHILD, NUMBER, DIGITS, Derives, whole, brackets, last_child, more_children, a_leaf, a_group, zero_alone, no_zero, no_digit, a_digit}
use Rattle.newick_text.specs.Automaton.{start, good, run}
use Rattle.statement.specs.Sentence.{Digits, none, more, Numeral, nought, lead, Children, leaf, group, leaf_then, group_then, digits_text, numeral_text, children_text, Fits}
use Rattle.newick_text.proofs.Complete.{complete}
use Rattle.newick_text.proofs.Sound.{sound}

-- FROM PRODUCTIONS TO DERIVATION TREES
abbrev DigitsOf : List ℕ → Type 0
DigitsOf s = (r : Digits) × ((t : List ℕ) → digits_text r t ≡ s ++ t)

abbrev NumberOf : List ℕ → Type 0
NumberOf s = (x : Numeral) × ((t : List ℕ) → numeral_text x t ≡ s ++ t)

-- the text of a leaf, and of a vertex with children, before what follows
leaf_text_law : (x w : Numeral) (a b t : List ℕ) → ((t : List ℕ) → numeral_text x t ≡ a ++ t) → ((t : List ℕ) → numeral_text w t ≡ b ++ t) → numeral_text x (58 ∷ numeral_text w t) ≡ (a ++ (58 ∷ b)) ++ t
leaf_text_law x w a b t p q = p (58 ∷ numeral_text w t) ∙ ap (λ (u : List ℕ). a ++ (58 ∷ u)) (q t) ∙ sym (append_assoc a (58 ∷ b) t)

node_text : (f : Children) (w : Numeral) (g b t : List ℕ) → ((t : List ℕ) → 40 ∷ children_text f (41 ∷ t) ≡ g ++ t) → ((t : List ℕ) → numeral_text w t ≡ b ++ t)
    → 40 ∷ children_text f (41 ∷ 58 ∷ numeral_text w t) ≡ (g ++ (58 ∷ b)) ++ t
node_text f w g b t p q = p (58 ∷ numeral_text w t) ∙ ap (λ (u : List ℕ). g ++ (58 ∷ u)) (q t) ∙ sym (append_assoc g (58 ∷ b) t)

abbrev KidsOf : ℕ → List ℕ → Type 0
KidsOf l s = (f : Children) × Fits f l × ((t : List ℕ) → children_text f t ≡ s ++ t)

abbrev GroupOf : ℕ → List ℕ → Type 0
GroupOf zero g = ⊥
GroupOf (suc l) g = (f : Children) × Fits f l × ((t : List ℕ) → 40 ∷ children_text f (41 ∷ t) ≡ g ++ t)

inner_child : (l : ℕ) (g b : List ℕ) → GroupOf l g → (w : Numeral) × ((t : List ℕ) → numeral_text w t ≡ b ++ t) → KidsOf l (g ++ (58 ∷ b))
inner_child zero g b h w = absurd h
inner_child (suc l) g b (f, i, p) (w, q) = (group f w, i, λ t. node_text f w g b t p q)

then_more : (l : ℕ) (s t : List ℕ) → KidsOf l t → (x w : Numeral) (a b : List ℕ) → s ≡ a ++ (58 ∷ b) → ((t : List ℕ) → numeral_text x t ≡ a ++ t) → ((t : List ℕ) → numeral_text w t ≡ b ++ t) → KidsOf l (s ++ (44 ∷ t))
then_more l s t (r, i, e) x w a b q p₁ p₂ =
    (leaf_then x w r, i, λ u. leaf_text_law x w a b (44 ∷ children_text r u) p₁ p₂ ∙ ap (λ (z : List ℕ). z ++ (44 ∷ children_text r u)) (sym q) ∙ ap (λ (z : List ℕ). s ++ (44 ∷ z)) (e u) ∙ sym (append_assoc s (44 ∷ t) u))

inner_more : (l : ℕ) (g b t : List ℕ) → GroupOf l g → (w : Numeral) × ((t : List ℕ) → numeral_text w t ≡ b ++ t) → KidsOf l t → KidsOf l ((g ++ (58 ∷ b)) ++ (44 ∷ t))
inner_more zero g b t h w k = absurd h
inner_more (suc l) g b t (f, i, p) (w, q) (r, j, e) =
    (group_then f w r, (i, j), λ u. node_text f w g b (44 ∷ children_text r u) p q ∙ ap (λ (z : List ℕ). (g ++ (58 ∷ b)) ++ (44 ∷ z)) (e u) ∙ sym (append_assoc (g ++ (58 ∷ b)) (44 ∷ t) u))

-- what a child is
pub data ChildOf (l : ℕ) (s : List ℕ) : Type 0 where
  of_leaf : (x w : Numeral) (a b : List ℕ) → s ≡ a ++ (58 ∷ b) → ((t : List ℕ) → numeral_text x t ≡ a ++ t) → ((t : List ℕ) → numeral_text w t ≡ b ++ t) → ChildOf l s
  of_group : (g b : List ℕ) → s ≡ g ++ (58 ∷ b) → GroupOf l g → (w : Numeral) × ((t : List ℕ) → numeral_text w t ≡ b ++ t) → ChildOf l s

child_last : (l : ℕ) (s : List ℕ) → ChildOf l s → KidsOf l s
child_last l s (of_leaf x w a b q p₁ p₂) = (leaf x w, tt, λ t. leaf_text_law x w a b t p₁ p₂ ∙ ap (λ (u : List ℕ). u ++ t) (sym q))
child_last l s (of_group g b q h w) = subst (KidsOf l) (sym q) (inner_child l g b h w)

child_more : (l : ℕ) (s t : List ℕ) → ChildOf l s → KidsOf l t → KidsOf l (s ++ (44 ∷ t))
child_more l s t (of_leaf x w a b q p₁ p₂) k = then_more l s t k x w a b q p₁ p₂
child_more l s t (of_group g b q h w) k = subst (λ (u : List ℕ). KidsOf l (u ++ (44 ∷ t))) (sym q) (inner_more l g b t h w k)

bracketed : (l : ℕ) (s : List ℕ) → KidsOf l s → GroupOf (suc l) (40 ∷ (s ++ (41 ∷ [])))
bracketed l s (f, i, e) = (f, i, λ t. ap (λ (u : List ℕ). 40 ∷ u) (e (41 ∷ t) ∙ sym (append_assoc s (41 ∷ []) t)))

abbrev TextOf : ℕ → List ℕ → Type 0
TextOf l s = (g : List ℕ) × GroupOf l g × (s ≡ g ++ (59 ∷ []))

abbrev Drawn : Symbol → ℕ → List ℕ → Type 0
Drawn TEXT l s = TextOf l s
Drawn GROUP l s = GroupOf l s
Drawn CHILDREN l s = KidsOf l s
Drawn CHILD l s = ChildOf l s
Drawn NUMBER l s = NumberOf s
Drawn DIGITS l s = DigitsOf s

drawn : {y : Symbol} {l : ℕ} {s : List ℕ} → Derives y l s → Drawn y l s
drawn no_digit = (none, λ t. refl)
drawn (a_digit {l} {c} p d) = let (r, e) = drawn d in (more c p r, λ t. ap (λ (u : List ℕ). c ∷ u) (e t))
drawn zero_alone = (nought, λ t. refl)
drawn (no_zero {l} {c} p q d) = let (r, e) = drawn d in (lead c p q r, λ t. ap (λ (u : List ℕ). c ∷ u) (e t))
drawn (a_leaf {l} {x} {w} d e) = let (m, p) = drawn d in let (n, q) = drawn e in of_leaf m n x w refl p q
drawn (a_group {l} {g} {w} d e) = of_group g w refl (drawn d) (drawn e)
drawn (last_child {l} {s} c) = child_last l s (drawn c)
drawn (more_children {l} {s} {t} c d) = child_more l s t (drawn c) (drawn d)
drawn (brackets {l} {s} d) = bracketed l s (drawn d)
drawn (whole {l} {g} d) = (g, drawn d, refl)

-- AND BACK
digits_back : (l : ℕ) (r : Digits) → Derives DIGITS l (digits_text r [])
digits_back l none = no_digit
digits_back l (more c p r) = a_digit p (digits_back l r)

number_back : (l : ℕ) (x : Numeral) → Derives NUMBER l (numeral_text x [])
number_back l nought = zero_alone
number_back l (lead c p q r) = no_zero p q (digits_back l r)

digits_tail : (r : Digits) (t : List ℕ) → digits_text r t ≡ digits_text r [] ++ t
digits_tail none t = refl
digits_tail (more c p r) t = ap (λ (u : List ℕ). c ∷ u) (digits_tail r t)

num_tail : (x : Numeral) (t : List ℕ) → numeral_text x t ≡ numeral_text x [] ++ t
num_tail nought t = refl
num_tail (lead c p q r) t = ap (λ (u : List ℕ). c ∷ u) (digits_tail r t)

-- a list of children, said by the grammar: its text, and what follows
Back : Children → ℕ → Type 0
Back f l = (s : List ℕ) × Derives CHILDREN l s × ((t : List ℕ) → children_text f t ≡ s ++ t)

leaf_back : (l : ℕ) (x w : Numeral) → (s : List ℕ) × Derives CHILD l s × ((t : List ℕ) → numeral_text x (58 ∷ numeral_text w t) ≡ s ++ t)
leaf_back l x w =
    (numeral_text x [] ++ (58 ∷ numeral_text w []), a_leaf (number_back l x) (number_back l w), λ t. leaf_text_law x w (numeral_text x []) (numeral_text w []) t (num_tail x) (num_tail w))

node_back : (l : ℕ) (f : Children) (w : Numeral) → Back f l → (s : List ℕ) × Derives CHILD (suc l) s × ((t : List ℕ) → 40 ∷ children_text f (41 ∷ 58 ∷ numeral_text w t) ≡ s ++ t)
unfolding Back
node_back l f w (s, d, e) = (
  (40 ∷ (s ++ (41 ∷ []))) ++ (58 ∷ numeral_text w []),
  a_group (brackets d) (number_back (suc l) w),
  λ t. node_text f w (40 ∷ (s ++ (41 ∷ []))) (numeral_text w []) t (λ u. ap (λ (z : List ℕ). 40 ∷ z) (e (41 ∷ u) ∙ sym (append_assoc s (41 ∷ []) u))) (num_tail w),
)

kids_back : (f : Children) (l : ℕ) → Fits f l → Back f l
unfolding Back
kids_back (leaf x w) l i = let (s, d, e) = leaf_back l x w in (s, last_child d, e)
kids_back (group f w) zero i = absurd i
kids_back (group f w) (suc l) i = let (s, d, e) = node_back l f w (kids_back f l i) in (s, last_child d, e)
kids_back (leaf_then x w r) l i =
    let (s, d, e) = leaf_back l x w in let (t, b, h) = kids_back r l i in
    (s ++ (44 ∷ t), more_children d b, λ u. e (44 ∷ children_text r u) ∙ ap (λ (z : List ℕ). s ++ (44 ∷ z)) (h u) ∙ sym (append_assoc s (44 ∷ t) u))
kids_back (group_then f w r) zero i = absurd i
kids_back (group_then f w r) (suc l) i =
    let (s, d, e) = node_back l f w (kids_back f l i.0) in let (t, b, h) = kids_back r (suc l) i.1 in
    (s ++ (44 ∷ t), more_children d b, λ u. e (44 ∷ children_text r u) ∙ ap (λ (z : List ℕ). s ++ (44 ∷ z)) (h u) ∙ sym (append_assoc s (44 ∷ t) u))

group_kids : (l : ℕ) (s g r : List ℕ) → GroupOf (suc l) g → s ≡ g ++ (59 ∷ []) → (f : Children) × Fits f l × (s ++ r ≡ 40 ∷ children_text f (41 ∷ 59 ∷ r))
group_kids l s g r (f, i, p) q = (f, i, ap (λ (u : List ℕ). u ++ r) q ∙ append_assoc g (59 ∷ []) r ∙ sym (p (59 ∷ r)))

-- EXACTLY: the derivation trees that the reader's laws speak of have the sentences of the productions
pub by_productions : (l : ℕ) (t r : List ℕ)
    → ((s : List ℕ) × Derives TEXT (suc l) s × (t ≡ s ++ r)) ↔ ((f : Children) × Fits f l × (t ≡ 40 ∷ children_text f (41 ∷ 59 ∷ r)))
unfolding Back
by_productions l t r = (
  (λ h. let (s, d, e) = h in let (g, m, q) = drawn d in let (f, i, p) = group_kids l s g r m q in (f, i, e ∙ p)),
  (λ h. let (f, i, e) = h in let (s, d, p) = kids_back f l i in (
    (40 ∷ (s ++ (41 ∷ []))) ++ (59 ∷ []),
    whole (brackets d),
    e ∙ ap (λ (z : List ℕ). 40 ∷ z) (p (41 ∷ 59 ∷ r) ∙ sym (append_assoc s (41 ∷ []) (59 ∷ r))) ∙ sym (append_assoc (40 ∷ (s ++ (41 ∷ []))) (59 ∷ []) r),
  )),
)

-- EXACTLY: the automaton accepts a text, leaving r, where it is a sentence with r behind it, to depth 130
pub accepts_exactly : (t r : List ℕ) → (run t (start 130) ≡ good r) ↔ ((s : List ℕ) × Derives TEXT 130 s × (t ≡ s ++ r))
accepts_exactly t r = (
  (λ e. (by_productions 129 t r).1 (sound t 129 r e)),
  (λ h. let (f, i, q) = (by_productions 129 t r).0 h in ap (λ (u : List ℕ). run u (start 130)) q ∙ complete f 129 r i),
)
