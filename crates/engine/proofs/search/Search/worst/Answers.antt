use Rattle.std.proofs.Common.{◌≡◌, ◌+◌, pos, ◌-ℤ◌, ◌≤ℤ◌, ◌<ℤ◌, ◌∙◌, arith}
use Rattle.std.proofs.lemmas.Int.{ints}
use Rattle.bus.specs.Bound.{SettlingWindow}
use Rattle.bus.proofs.Growing.{far}
use Rattle.bus.proofs.Listing.{listing_on, listing_end, listing_never}
use Rattle.bus.proofs.Loads.{blocking_at_most}
use Rattle.engine.proofs.search.Search.worst.Given as given
use Rattle.engine.proofs.search.Search.worst.Goals as goal
use Rattle.engine.proofs.search.Search.worst.Goals.{In_ok-window, After-unwrap-place}

pub new-start-requires : goal.new-start-requires
new-start-requires g c =
    let p = c.args.self.now.profile in
    let m = g.T.Traffic.meaning p.stream.traffic.now in
    omega (arith, p.blocks, blocking_at_most m (g.met.T.Traffic.limits p.stream.traffic.now) p.stream.number)

-- the instance of this turn settles
settling : (g : given.Over) (c : In_ok-window g) → SettlingWindow (g.T.Traffic.meaning c.args.self.now.profile.stream.traffic.now) c.args.self.now.profile.stream.number c.args.phase c.loop-window.instance c.in_ok-window.window.bits
settling g c = rw c.loop-window.invariant.0 at c.in_ok-window.ensures.window

-- and stands at its place
place_is : (g : given.Over) (c : After-unwrap-place g) → c.unwrap-place.result ≡ (g.T.Traffic.meaning c.args.self.now.profile.stream.traffic.now).place c.args.self.now.profile.stream.number c.args.phase c.loop-window.instance
place_is g c =
    let same = c.settle.ensures.same ∙ c.loop-window.invariant.0 in
    let asked = rw same at c.place.ensures in
    let listing = c.loop-window.invariant.1 in
    let is = asked.answered (c.args.self.now.profile.stream.known, c.requires, listing.counts, listing.few) in
    cc

pub returns-then-place-from-clause-worst : goal.returns-then-place-from-clause-worst
returns-then-place-from-clause-worst g c =
    let s = c.args.self.now.profile.stream in
    let at = goal.at.returns-then-place-from-clause-worst g c in
    let late : pos c.in_ok-window.window.bits <ℤ c.unwrap-place.result = omega (arith, ints, c.from.ensures) in
    listing_end _ (g.met.T.Traffic.limits s.traffic.now) s.number c.args.phase s.known c.requires _ _ _ _ c.loop-window.invariant.1
    (settling g at.In_ok-window)
    (rw (place_is g at.After-unwrap-place) at late)

pub response-requires : goal.response-requires
response-requires g c =
    let s = c.args.self.now.profile.stream in
    let m = g.T.Traffic.meaning s.traffic.now in
    let low = far m (g.met.T.Traffic.laws s.traffic.now) s.number c.args.phase s.known c.requires c.loop-window.instance c.loop-window.invariant.1.counts in
    let reach = (g.met.T.Traffic.limits s.traffic.now).reach_fits in
    let is = place_is g (goal.at.response-requires g c).After-unwrap-place in
    (omega (arith, ints), grind (arith, ints))

pub loop-window-preserved : goal.loop-window-preserved
loop-window-preserved g c =
    let s = c.args.self.now.profile.stream in
    let at = goal.at.loop-window-preserved g c in
    let same = c.settle.ensures.same ∙ c.loop-window.invariant.0 in
    let in_time : c.unwrap-place.result ≤ℤ pos c.in_ok-window.window.bits = grind (arith, ints) in
    let told = rw same at c.response.ensures in
    let response-is : pos c.response.result ≡ pos (c.in_ok-window.window.bits + s.longest) -ℤ c.unwrap-place.result = omega (arith, ints) in
    let listed = listing_on _ (g.met.T.Traffic.limits s.traffic.now) s.number c.args.phase s.known c.requires _ _ _ _ _ c.loop-window.invariant.1
    (settling g at.In_ok-window)
    (rw (place_is g at.After-unwrap-place) at in_time)
    (rw (s.long, place_is g at.After-unwrap-place) at response-is) in
    (same, rw c.max-most.ensures listed)

pub returns-in_err-window-clause-worst : goal.returns-in_err-window-clause-worst
returns-in_err-window-clause-worst g c =
    let s = c.args.self.now.profile.stream in
    let never = rw c.loop-window.invariant.0 at c.in_err-window.ensures.window in
    rw c.from_residual.ensures (listing_never _ (g.met.T.Traffic.limits s.traffic.now) s.number c.args.phase s.known c.requires _ _ _ c.loop-window.invariant.1 never)
