-- WHAT MAY BE DONE TO A TREE without changing its list: the children of a vertex come in another order, or the root moves along an edge.
use Rattle.statement.specs.Sentence.{Numeral, Children, leaf, group, leaf_then, group_then}

-- a child, and children with one more in front
pub data Child : Type 0 where
  single : Numeral → Numeral → Child
  inner : Children → Numeral → Child

abbrev pub only : Child → Children
only (single x w) = leaf x w
only (inner f w) = group f w

abbrev pub with : Child → Children → Children
with (single x w) r = leaf_then x w r
with (inner f w) r = group_then f w r

-- the children of two vertices together
unfoldable pub join : Children → Children → Children
join (leaf x w) s = leaf_then x w s
join (group f w) s = group_then f w s
join (leaf_then x w r) s = leaf_then x w (join r s)
join (group_then f w r) s = group_then f w (join r s)

-- ANOTHER ORDER of children, anywhere in the tree
pub data Ordered : Children → Children → Type 0 where
  same : {f : Children} → Ordered f f
  swap_last : (a b : Child) → Ordered (with a (only b)) (with b (only a))
  swap : (a b : Child) (r : Children) → Ordered (with a (with b r)) (with b (with a r))
  inside : {f g : Children} (w : Numeral) → Ordered f g → Ordered (group f w) (group g w)
  first : {f g : Children} (w : Numeral) (r : Children) → Ordered f g → Ordered (group_then f w r) (group_then g w r)
  later : (a : Child) {r s : Children} → Ordered r s → Ordered (with a r) (with a s)
  then : {f g h : Children} → Ordered f g → Ordered g h → Ordered f h

-- ANOTHER ROOT: the root's first child becomes the root, and the old root, with its other children, a child of it by the same edge
pub data Moved : Children → Children → Type 0 where
  ordered : {f g : Children} → Ordered f g → Moved f g
  rooted : (f : Children) (w : Numeral) (r : Children) → Moved (group_then f w r) (join f (group r w))
  back : (f : Children) (w : Numeral) (r : Children) → Moved (join f (group r w)) (group_then f w r)
  after : {f g h : Children} → Moved f g → Moved g h → Moved f h
