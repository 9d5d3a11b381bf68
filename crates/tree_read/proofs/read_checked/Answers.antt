-- Each way out is a law of the list of checks.
use Rattle.std.proofs.Common.{rules, ◌≡◌, ◌+◌, ◌∙◌, ap, sym, refl, length, drop, length-drop}
use Rattle.std.specs.Prelude.{Err}
use native.Mathlib.Omega.{arith}
use lib.ListN.{length-take}
use lib.Seq.{length-take-le}
use Rattle.statement.specs.Replies.{reading_said}
use Rattle.tree_read.proofs.Replies.{room_at, read_of, clusters_refused, clusters_passed, accepted_reply}
use Rattle.tree_read.proofs.read_checked.Goals as goal

pub bounds-body-0 : goal.bounds-body-0
bounds-body-0 c = omega (arith, (room_at c.args.n c.args.body.now _ c.requires refl).sized)

pub links_in-requires : goal.links_in-requires
links_in-requires c = omega (arith, room_at c.args.n c.args.body.now _ c.requires c.from-m.ensures)

pub homes_in-requires : goal.homes_in-requires
homes_in-requires c = omega (arith, room_at c.args.n c.args.body.now _ c.requires c.from-m.ensures)

pub clusters_of-clusters-requires : goal.clusters_of-clusters-requires
clusters_of-clusters-requires c =
    let a = c.args in
    let m = c.from-m.result in
    let room = room_at a.n a.body.now _ c.requires c.from-m.ensures in (
      omega (arith, room, ap length c.links_in.ensures, length-take m (drop 1 a.body.now)),
      omega (arith, room, ap length c.homes_in.ensures, length-take a.n (drop (1 + m) a.body.now)),
    )

pub slice_bounds-clusters-end : goal.slice_bounds-clusters-end
slice_bounds-clusters-end c = omega (arith, room_at c.args.n c.args.body.now _ c.requires c.from-m.ensures, c.clusters_of-clusters.ensures.long)

pub slice_bounds-check_clusters-end : goal.slice_bounds-check_clusters-end
slice_bounds-check_clusters-end c =
    sym (length-take-le c.from-m.result c.clusters_of-clusters.result
    (omega (arith, room_at c.args.n c.args.body.now _ c.requires c.from-m.ensures, c.clusters_of-clusters.ensures.long)))

pub returns-in_err-check_clusters : goal.returns-in_err-check_clusters
returns-in_err-check_clusters c =
    let a = c.args in
    let read = read_of a.n a.body.now _ _ c.requires c.from-m.ensures c.links_in.ensures c.homes_in.ensures c.clusters_of-clusters.ensures in
    let told : reading_said c.from_residual.result ≡ reading_said (Err c.in_err-check_clusters.field-0.0) = search rules in
    told ∙ clusters_refused a.n a.body.now _ _ read _ refl _ c.in_err-check_clusters.ensures

pub weights_in-requires : goal.weights_in-requires
weights_in-requires c = omega (arith, room_at c.args.n c.args.body.now _ c.requires c.from-m.ensures)

pub weights_of-weights-requires : goal.weights_of-weights-requires
weights_of-weights-requires c =
    let a = c.args in
    let room = room_at a.n a.body.now _ c.requires c.from-m.ensures in
    (omega (arith, room), omega (arith, room, ap length c.weights_in.ensures, length-drop (1 + c.from-m.result + a.n) a.body.now))

pub sorted-requires : goal.sorted-requires
sorted-requires c = omega (arith, room_at c.args.n c.args.body.now _ c.requires c.from-m.ensures)

pub returns : goal.returns
returns c =
    let a = c.args in
    let read = read_of a.n a.body.now _ _ c.requires c.from-m.ensures c.links_in.ensures c.homes_in.ensures c.clusters_of-clusters.ensures in
    let passed = clusters_passed a.n a.body.now _ _ read _ refl c.in_ok-check_clusters.ensures in
    accepted_reply a.n a.body.now _ _ read _ c.weights_of-weights.result c.weights_in.ensures c.weights_of-weights.ensures passed _ c.sorted.ensures
