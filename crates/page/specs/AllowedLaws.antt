-- Entries that a page may have, with one more and with some left out.
use Rattle.std.specs.Prelude.{◌≡◌, Bool, true, false, not, List, ◌<◌, length}
use Rattle.std.proofs.Common.{ap, arith}
use Rattle.lists.specs.Lists.{tally}
use Rattle.page.specs.declared.Entry.{Entry}
use Rattle.page.specs.Pair.{PairFits, bad_pair, pair_of, is, enter}
use Rattle.page.specs.Sublist.{Sublist}
use Rattle.page.specs.SublistLaws.{all-each, each_all, each-sublist, length-sublist}
use Rattle.page.specs.AscendingLaws.{length-enter, each-enter, ascending-enter, ascending-sublist}
use Rattle.page.specs.Allowed.{Allowed}

abbrev clean : Entry → Bool
clean e = not (bad_pair e.pair)

pub allowed-enter : (e : Entry) (es : List Entry) → Allowed es → length es < 40 → PairFits e.pair
    → bad_pair e.pair ≡ false → tally (is e.pair) es ≡ 0 → Allowed (enter pair_of e es)
allowed-enter e es good room fits fine absent =
    record {
      few = omega (arith, length-enter pair_of e es);
      fit = each-enter pair_of (λ f. PairFits f.pair) e es fits good.fit;
      clean = each_all clean (enter pair_of e es)
          (each-enter pair_of (λ f. clean f ≡ true) e es (ap not fine) (all-each clean es good.clean));
      order = ascending-enter pair_of e es absent good.order;
    }

pub allowed-sublist : {es fs : List Entry} → Sublist es fs → Allowed fs → Allowed es
allowed-sublist {es} {fs} s good =
    record {
      few = omega (arith, length-sublist s, good.few);
      fit = each-sublist (λ f. PairFits f.pair) s good.fit;
      clean = each_all clean es (each-sublist (λ f. clean f ≡ true) s (all-each clean fs good.clean));
      order = ascending-sublist pair_of s good.order;
    }
