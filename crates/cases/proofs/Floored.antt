-- Every row of the table of floors is computed.
use Rattle.std.proofs.Common.{refl}
use Rattle.cases.specs.Floors.{floor_rows, AllFloored}

pub all_floored : AllFloored floor_rows
all_floored = (
  record { by_placed = refl; by_windows = refl; by_greater = refl; turned = refl; piled = refl; kept = refl },
  (
    record { by_placed = refl; by_windows = refl; by_greater = refl; turned = refl; piled = refl; kept = refl },
    (
      record { by_placed = refl; by_windows = refl; by_greater = refl; turned = refl; piled = refl; kept = refl },
      (
        record { by_placed = refl; by_windows = refl; by_greater = refl; turned = refl; piled = refl; kept = refl },
        (
          record { by_placed = refl; by_windows = refl; by_greater = refl; turned = refl; piled = refl; kept = refl },
          (
            record { by_placed = refl; by_windows = refl; by_greater = refl; turned = refl; piled = refl; kept = refl },
            (
              record { by_placed = refl; by_windows = refl; by_greater = refl; turned = refl; piled = refl; kept = refl },
              (
                record { by_placed = refl; by_windows = refl; by_greater = refl; turned = refl; piled = refl; kept = refl },
                (
                  record { by_placed = refl; by_windows = refl; by_greater = refl; turned = refl; piled = refl; kept = refl },
                  (
                    record { by_placed = refl; by_windows = refl; by_greater = refl; turned = refl; piled = refl; kept = refl },
                    (
                      record { by_placed = refl; by_windows = refl; by_greater = refl; turned = refl; piled = refl; kept = refl },
                      (
                        record { by_placed = refl; by_windows = refl; by_greater = refl; turned = refl; piled = refl; kept = refl },
                        (
                          record { by_placed = refl; by_windows = refl; by_greater = refl; turned = refl; piled = refl; kept = refl },
                          (
                            record { by_placed = refl; by_windows = refl; by_greater = refl; turned = refl; piled = refl; kept = refl },
                            (
                              record { by_placed = refl; by_windows = refl; by_greater = refl; turned = refl; piled = refl; kept = refl },
                              (
                                record { by_placed = refl; by_windows = refl; by_greater = refl; turned = refl; piled = refl; kept = refl },
                                (
                                  record { by_placed = refl; by_windows = refl; by_greater = refl; turned = refl; piled = refl; kept = refl },
                                  (
                                    record { by_placed = refl; by_windows = refl; by_greater = refl; turned = refl; piled = refl; kept = refl },
                                    (
                                      record { by_placed = refl; by_windows = refl; by_greater = refl; turned = refl; piled = refl; kept = refl },
                                      (
                                        record { by_placed = refl; by_windows = refl; by_greater = refl; turned = refl; piled = refl; kept = refl },
                                        (
                                          record { by_placed = refl; by_windows = refl; by_greater = refl; turned = refl; piled = refl; kept = refl },
                                          (
                                            record { by_placed = refl; by_windows = refl; by_greater = refl; turned = refl; piled = refl; kept = refl },
                                            (
                                              record { by_placed = refl; by_windows = refl; by_greater = refl; turned = refl; piled = refl; kept = refl },
                                              tt,
                                            ),
                                          ),
                                        ),
                                      ),
                                    ),
                                  ),
                                ),
                              ),
                            ),
                          ),
                        ),
                      ),
                    ),
                  ),
                ),
              ),
            ),
          ),
        ),
      ),
    ),
  ),
)
