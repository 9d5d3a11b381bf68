-- THE TOKENS of a list of children are its text. Assumes nothing.
use Prim.Native.Nat.{ℕ}
use mathlib.Core.Path.{◌≡◌, refl, ◌∙◌, ap}
use mathlib.Core.List.{List, ◌∷◌}
use Rattle.statement.specs.Sentence.{Children, leaf, group, leaf_then, group_then, numeral_text, children_text}
use Rattle.newick_walk.specs.Tokens.{Token, closes, comma, weight, bytes_of, NoTaxon, Sep, tokens}

pub bytes_tokens : (f : Children) (ts : List Token) (s : List ℕ) → children_text f (bytes_of ts s) ≡ bytes_of (tokens f ts) s
unfolding tokens bytes_of
bytes_tokens (leaf x w) ts s = refl
bytes_tokens (group f w) ts s = ap (λ (u : List ℕ). 40 ∷ u) (bytes_tokens f (closes ∷ weight w ∷ ts) s)
bytes_tokens (leaf_then x w r) ts s = ap (λ (u : List ℕ). numeral_text x (58 ∷ numeral_text w (44 ∷ u))) (bytes_tokens r ts s)
bytes_tokens (group_then f w r) ts s =
    ap (λ (u : List ℕ). 40 ∷ children_text f (41 ∷ 58 ∷ numeral_text w (44 ∷ u))) (bytes_tokens r ts s)
    ∙ ap (λ (u : List ℕ). 40 ∷ u) (bytes_tokens f (closes ∷ weight w ∷ comma ∷ tokens r ts) s)

-- and no number follows a number
pub tokens_sep : (f : Children) (ts : List Token) → NoTaxon ts → Sep ts → Sep (tokens f ts)
unfolding tokens
tokens_sep (leaf x w) ts h s = (tt, (h, s))
tokens_sep (group f w) ts h s = (tt, tokens_sep f (closes ∷ weight w ∷ ts) tt (tt, (h, s)))
tokens_sep (leaf_then x w r) ts h s = (tt, (tt, (tt, tokens_sep r ts h s)))
tokens_sep (group_then f w r) ts h s = (tt, tokens_sep f (closes ∷ weight w ∷ comma ∷ tokens r ts) tt (tt, (tt, (tt, tokens_sep r ts h s))))
