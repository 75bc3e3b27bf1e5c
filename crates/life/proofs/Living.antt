-- A life goes on by a call, or stops at one that may not come. Assumes nothing.
use Rattle.std.proofs.Common.{◌≡◌, ℕ, suc, ◌+◌, ◌<◌, List, [], ◌∷◌, ◌++◌, length, get_or, take, drop, Some, None, Option, sym, refl, ◌∙◌, subst, arith}
use Rattle.std.proofs.lemmas.List.{take_more, set-get_or, set_split, length-take}
use Rattle.plan.specs.Book.{Book}
use Rattle.life.specs.declared.life.Call.{Call}
use Rattle.life.specs.declared.life.Answer.{Answer}
use Rattle.settled.proofs.Delivering.{figures_hold}
use Rattle.life.specs.declared.life.Plan.{Plan}
use Rattle.life.specs.declared.life.Plan.TheVariants.{Open, Settled}
use Rattle.life.specs.Life.{Figured, Works, Worked, WorksAll, Lives, Stops}

-- one call more
works_on : (b mid b' : Book) (calls : List Call) (answers : List Answer) (call : Call) (a : Answer) → WorksAll b calls answers mid → Works mid call a b' → WorksAll b (calls ++ call ∷ []) (answers ++ a ∷ []) b'
works_on b mid b' [] [] call a so step = (b', subst (λ (x : Book). Works x call a b') so step, refl)
works_on b mid b' [] (x ∷ answers) call a so step = absurd so
works_on b mid b' (x ∷ calls) [] call a so step = absurd so
works_on b mid b' (x ∷ calls) (y ∷ answers) call a so step = (so.0, so.1, works_on so.0 mid b' calls answers call a so.2 step)

module _ (calls : List Call) (i : ℕ) (d : Call) (inside : i < length calls) (answers : List Answer) (b : Book) (so : Lives (take i calls) answers b) (told : Option Answer) (b' : Book) (worked : Worked b (get_or calls i d) told b') where
  pub lives_on : (a : Answer) → told ≡ Some a → Lives (take (i + 1) calls) (answers ++ a ∷ []) b'
  lives_on a is =
      subst (λ (front : List Call). Lives front (answers ++ a ∷ []) b') (sym (take_more calls i d inside))
      (works_on _ b b' (take i calls) answers (get_or calls i d) a so (subst (λ (o : Option Answer). Worked b (get_or calls i d) o b') is worked))

  pub stops_at : told ≡ None → Stops calls answers i b'
  stops_at is =
      let none = subst (λ (o : Option Answer). Worked b (get_or calls i d) o b') is worked in
      subst (λ (x : Book). Stops calls answers i x) (sym none.0) (record {
        front = take i calls;
        call = get_or calls i d;
        back = drop (suc i) calls;
        is = sym (set-get_or calls i d) ∙ set_split calls i (get_or calls i d) inside;
        lives = so;
        place_is = omega (arith, length-take i calls);
        misplaced = none.1;
      })

-- a plan that is settled has its figures
pub figured : (plan : Plan) → Figured plan
figured (Open p) = tt
figured (Settled s) = figures_hold s
