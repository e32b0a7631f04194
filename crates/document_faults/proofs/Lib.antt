mod NarrowLemmas
